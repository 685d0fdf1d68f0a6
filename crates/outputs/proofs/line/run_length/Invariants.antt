-- Eight cells of the first one's code after another are passed over.
use Rattle.std.proofs.Common.{◌≡◌, ℕ, ◌-◌, ◌<◌, ◌≤◌, length}
use Rattle.outputs.specs.inner.Room.{code_at}
use Rattle.outputs.proofs.line.run_length.Given as goal

abbrev pub invariant-loop-eight : goal.invariant-loop-eight
invariant-loop-eight l = record {
  most : l.same ≤ length l.cells;
  each : (k : ℕ) → k < l.same → code_at l.cells k ≡ l.code;
}

abbrev pub decreases-loop-eight : goal.decreases-loop-eight
decreases-loop-eight l = length l.cells - l.same
