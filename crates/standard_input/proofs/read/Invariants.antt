-- The input read piece by piece: what was counted lies within the memory.
use Rattle.std.proofs.Common.{length, ◌-◌, ◌≤◌}
use Rattle.standard_input.proofs.read.Given as goal

abbrev pub invariant-loop-count : goal.invariant-loop-count
invariant-loop-count g l = l.count ≤ length l.bytes

abbrev pub decreases-loop-count : goal.decreases-loop-count
decreases-loop-count g l = length l.initial.bytes - l.count
