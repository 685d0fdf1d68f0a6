-- Place after place: each of the first k holds what the rule gives.
use Rattle.std.proofs.Common.{◌≡◌, ℕ, ◌<◌, get_or}
use Rattle.mixing.specs.Mix.{mixed_at}
use Rattle.mixing.proofs.lay.lay.Given as goal

abbrev pub invariant-loop-k : goal.invariant-loop-k
invariant-loop-k l = (i : ℕ) → i < l.k → get_or l.out i 0 ≡ mixed_at l.cells l.camera i
