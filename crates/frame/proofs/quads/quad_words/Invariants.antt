-- Four words a turn: after each turn the cells of the words before are painted.
use Rattle.std.proofs.Common.{◌*◌}
use Rattle.buffers.proofs.Paints.{Paints}
use Rattle.frame.specs.inner.Ink.{words_ink}
use Rattle.frame.proofs.quads.quad_words.Given as goal

abbrev pub invariant-loop-k : goal.invariant-loop-k
invariant-loop-k l = Paints 0 l.initial.out l.out 0 (16 * l.k) (words_ink l.quads l.video 1)
