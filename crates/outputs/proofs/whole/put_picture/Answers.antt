-- The text is measured first, so that it is stored whole or not at all.
use native.Mathlib.Omega.{arith}
use lib.ListN.{length}
use Rattle.buffers.proofs.Puts.{put_nothing, text_short, text_fits}
use Rattle.outputs.specs.Text.{picture_text}
use Rattle.outputs.proofs.whole.put_picture.Goals as goal

pub returns-then-out-n : goal.returns-then-out-n
returns-then-out-n c =
    let a = c.args in
    let p = a.p.now in
    let short = text_short (length a.out.now) (picture_text p.g p.video.now p.cursor.now)
    (omega (arith, c.measure-n.ensures, c.if-out-n.true)) in
    rw short (put_nothing _)

pub put_lines-requires : goal.put_lines-requires
put_lines-requires c = omega (arith, c.measure-n.ensures, c.if-out-n.false)

pub returns : goal.returns
returns c =
    let a = c.args in
    let p = a.p.now in
    let n = c.measure-n.ensures in
    let fits = c.if-out-n.false in
    rw (text_fits (length a.out.now) (picture_text p.g p.video.now p.cursor.now) (omega (arith, n, fits)))
    (record { stored = c.put_lines.ensures; after = omega (arith, n); inside = fits })
