-- A word eight pixels a turn: after each turn those of the parts before are painted.
use Rattle.std.proofs.Common.{◌*◌}
use Rattle.buffers.proofs.Paints.{Paints}
use Rattle.frame.specs.inner.Ink.{word_ink}
use Rattle.frame.proofs.decode.word.Given as goal

abbrev pub invariant-loop-part : goal.invariant-loop-part
invariant-loop-part g l = Paints 0 l.initial.out l.out 0 (8 * l.part) (word_ink l.table l.w g.row.PER)
