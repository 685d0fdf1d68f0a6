-- Strip 0 is the head, a strip past the last is none, and any other is a raster's.
use native.Mathlib.Omega.{arith}
use Rattle.buffers.proofs.Puts.{put_nothing}
use Rattle.outputs.proofs.Pictures.{strip_head_holds, strip_none, strip_raster}
use Rattle.outputs.proofs.strips.picture_strip.Goals as goal

pub returns-then-k-eq0 : goal.returns-then-k-eq0
returns-then-k-eq0 c =
    let p = c.args.p.now in
    rw (strip_head_holds p.g p.video.now p.cursor.now p.s c.args.k c.if-k-eq0.true, ← c.from.ensures, ← c.from-then-k-eq0.ensures) c.put_pair.ensures

pub returns-then-from-k : goal.returns-then-from-k
returns-then-from-k c =
    let p = c.args.p.now in
    rw (strip_none p.g p.video.now p.cursor.now p.s c.args.k c.if-k-eq0.false (omega (arith, c.from-2.ensures))) (put_nothing _)

pub returns : goal.returns
returns c =
    let p = c.args.p.now in
    rw (strip_raster p.g p.video.now p.cursor.now p.s c.args.k c.if-k-eq0.false (omega (arith, c.from-2.ensures))) c.raster_strip.ensures
