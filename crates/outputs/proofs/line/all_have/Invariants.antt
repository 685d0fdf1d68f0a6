-- Cell after cell: as long as none had another code, all so far have this one.
use Rattle.std.proofs.Common.{◌≡◌, ℕ, ◌<◌, ◌/◌, true, get_or}
use Rattle.outputs.proofs.line.all_have.Given as goal

abbrev pub invariant-loop-cell : goal.invariant-loop-cell
invariant-loop-cell l = l.same ≡ true → (k : ℕ) → k < l.cell-index → get_or l.eight k 0 / 8192 ≡ l.code
