-- Word after word: after each turn the cells of the first q words are painted.
use Rattle.std.proofs.Common.{◌*◌}
use Rattle.buffers.proofs.Paints.{Paints}
use Rattle.frame.specs.inner.Ink.{words_ink}
use Rattle.frame.proofs.quads.each.Given as goal

abbrev pub invariant-loop-q : goal.invariant-loop-q
invariant-loop-q l = Paints 0 l.initial.out l.out 0 (4 * l.q) (words_ink l.quads l.video 1)
