-- The sixteen entries, stored one after another: after k turns the first k stand in the list.
use lib.ListN.{replicate}
use Rattle.buffers.proofs.Paints.{Paints}
use Rattle.registers.specs.Colours.{palette_of}
use Rattle.colours.proofs.entries.Given as goal

abbrev pub invariant-loop-k : goal.invariant-loop-k
invariant-loop-k l = Paints 0 (replicate 16 0) l.list 0 l.k (palette_of l.g)
