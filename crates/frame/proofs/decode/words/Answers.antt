-- Word after word: one word more is painted, at its place in the list.
use Rattle.std.proofs.Common.{◌≡◌, ◌+◌, ◌*◌, ◌-◌, length, refl, arith}
use Rattle.buffers.proofs.Paints.{paint_next, paints_painted}
use Rattle.frame.proofs.Parts.{part_painted}
use Rattle.frame.proofs.Words.{part_room, word_same}
use Rattle.frame.specs.inner.Ink.{words_ink}
use Rattle.frame.proofs.decode.words.Goals as goal

pub loop-q-preserved : goal.loop-q-preserved
loop-q-preserved g c =
    let l = c.loop-q in
    let n = 4 * g.row.PER in
    let room = part_room l.q (length c.args.video.now) n c.loop-q-test.true in
    let word =
    part_painted l.out c.word.new.out (l.q * n) (l.q * n + n - l.q * n) (l.q * n) ((l.q + 1) * n) refl (omega arith)
    (omega (arith, room, c.requires.1, l.invariant.len)) (words_ink c.args.table.now c.args.video.now g.row.PER) _ n (omega arith) c.word.ensures
    (λ j h. word_same c.args.table.now c.args.video.now g.row.PER l.q j (omega arith)) in
    paint_next {d = 0} (omega arith) (omega arith) l.invariant word

pub returns : goal.returns
returns g c =
    let e : c.loop-q.q ≡ length c.args.video.now = omega arith in
    paints_painted {d = 0} (omega arith) (rw (e, ← c.requires.1) at c.loop-q.invariant)
