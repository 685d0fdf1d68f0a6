-- Each slot of the group so far is written.
use Rattle.std.proofs.Common.{◌≡◌, ℕ, ◌/◌, ◌<◌, ◌≤◌, false, get_or, not}
use Rattle.registers.proofs.record.Registers.lowest_unwritten.Given as goal

abbrev pub invariant-loop-slot : goal.invariant-loop-slot
invariant-loop-slot l = (k : ℕ) → l.first / 4 ≤ k → k < l.slot → not (get_or l.self.written k false) ≡ false
