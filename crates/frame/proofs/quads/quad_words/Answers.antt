-- Four words a turn: the cells of a part of the list stand at that part's place.
use Rattle.std.proofs.Common.{◌≡◌, ◌+◌, ◌*◌, ◌-◌, ◌/◌, ◌≤◌, length, refl, arith}
use Rattle.buffers.proofs.Paints.{paint_next, paints_painted}
use Rattle.frame.proofs.Parts.{part_long, part_painted}
use Rattle.frame.proofs.QuadCells.{part_same}
use Rattle.frame.specs.inner.Ink.{words_ink}
use Rattle.frame.proofs.quads.quad_words.Goals as goal

pub loop-k-preserved : goal.loop-k-preserved
loop-k-preserved c =
    let l = c.loop-k in
    let at = 16 * l.k in
    let q = 4 * l.k in
    let to = 16 * (l.k + 1) in
    let room : to ≤ length l.out = omega (arith, c.requires.0, l.invariant.len, c.loop-k-test.true) in
    let words =
    part_painted l.out c.each.new.out at (at + 16 - at) at to refl (omega arith) room (words_ink c.args.quads.now c.args.video.now 1) _ _
    (part_long l.out l.out at (at + 16 - at) at to refl (omega arith) room) c.each.ensures
    (λ j h. part_same c.args.quads.now c.args.video.now q (q + 4 - q) at j (omega arith) (omega arith)) in
    paint_next {d = 0} (omega arith) (omega arith) l.invariant words

pub returns : goal.returns
returns c =
    let l = c.loop-k in
    let turns = length c.args.video.now / 4 in
    let at = 16 * turns in
    let q = 4 * turns in
    let e : l.k ≡ turns = omega arith in
    let n = length l.out - at in
    let to = length c.args.out.now in
    let end : at + n ≡ to = omega (arith, c.requires.0, l.invariant.len) in
    let room : to ≤ length l.out = omega (arith, l.invariant.len) in
    let rest =
    part_painted l.out c.each-2.new.out at n at to refl end room (words_ink c.args.quads.now c.args.video.now 1) _ _
    (part_long l.out l.out at n at to refl end room) c.each-2.ensures
    (λ j h. part_same c.args.quads.now c.args.video.now q (length c.args.video.now - q) at j (omega arith) (omega (arith, c.requires.0, l.invariant.len))) in
    paints_painted {d = 0} (omega arith)
    (paint_next {d = 0} (omega arith) (omega (arith, c.requires.0, l.invariant.len)) (rw e at l.invariant) rest)
