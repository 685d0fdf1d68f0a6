-- Word after word: after each turn the pixels of the first q words are painted.
use Rattle.std.proofs.Common.{◌*◌}
use Rattle.buffers.proofs.Paints.{Paints}
use Rattle.frame.specs.inner.Ink.{words_ink}
use Rattle.frame.proofs.decode.words.Given as goal

abbrev pub invariant-loop-q : goal.invariant-loop-q
invariant-loop-q g l = Paints 0 l.initial.out l.out 0 (l.q * (4 * g.row.PER)) (words_ink l.table l.video g.row.PER)
