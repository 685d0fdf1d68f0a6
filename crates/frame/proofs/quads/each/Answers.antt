-- Word after word: one word more is painted, at its place in the list.
use Rattle.std.proofs.Common.{◌≡◌, ◌+◌, ◌*◌, ◌-◌, length, refl, arith}
use Rattle.buffers.proofs.Paints.{paint_next, paints_painted}
use Rattle.frame.proofs.Parts.{part_painted}
use Rattle.frame.proofs.QuadCells.{quad_same}
use Rattle.frame.specs.inner.Ink.{quad_cell, words_ink}
use Rattle.frame.proofs.quads.each.Goals as goal

pub loop-q-preserved : goal.loop-q-preserved
loop-q-preserved c =
    let l = c.loop-q in
    let at = 4 * l.q in
    let word =
    part_painted l.out c.put_quad.new.out at (at + 4 - at) at (4 * (l.q + 1)) refl (omega arith)
    (omega (arith, c.requires.0, l.invariant.len, c.loop-q-test.true)) (words_ink c.args.quads.now c.args.video.now 1) (quad_cell c.quad.result) 4
    (omega arith) c.put_quad.ensures
    (λ j h. quad_same c.args.quads.now c.args.video.now l.q c.quad.result j c.quad.ensures (omega arith)) in
    paint_next {d = 0} (omega arith) (omega arith) l.invariant word

pub returns : goal.returns
returns c =
    let e : 4 * c.loop-q.q ≡ length c.args.out.now = omega arith in
    paints_painted {d = 0} (omega arith) (rw e at c.loop-q.invariant)
