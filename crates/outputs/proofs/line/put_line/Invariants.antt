-- Each turn stores a run and its mark, and the rest of the line is that of the cells after it; four bytes a cell are room enough.
use lib.ListN.{length}
use Rattle.outputs.specs.inner.Room.{Under}
use Rattle.outputs.proofs.line.put_line.Given as goal

abbrev pub invariant-loop-rest : goal.invariant-loop-rest
invariant-loop-rest l = Under l.initial.out l.out l.cells l.at l.to l.rest

abbrev pub decreases-loop-rest : goal.decreases-loop-rest
decreases-loop-rest l = length l.rest
