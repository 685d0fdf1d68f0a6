-- Line 0 is the head, a line past the last is none, and any other is a raster's.
use native.Mathlib.Omega.{arith}
use Rattle.buffers.proofs.Puts.{put_nothing}
use Rattle.outputs.proofs.Texts.{line_head, line_none, line_raster}
use Rattle.outputs.proofs.text.picture_line.Goals as goal

pub returns-then-k-eq0 : goal.returns-then-k-eq0
returns-then-k-eq0 c =
    let p = c.args.p.now in
    rw (line_head p.g p.video.now p.cursor.now p.s c.args.k c.if-k-eq0.true) c.head_line.ensures

pub returns-then-from-k : goal.returns-then-from-k
returns-then-from-k c =
    let p = c.args.p.now in
    rw (line_none p.g p.video.now p.cursor.now p.s c.args.k c.if-k-eq0.false (omega (arith, c.from.ensures))) (put_nothing _)

pub returns : goal.returns
returns c =
    let p = c.args.p.now in
    rw (line_raster p.g p.video.now p.cursor.now p.s c.args.k c.if-k-eq0.false (omega (arith, c.from.ensures))) c.raster_line.ensures
