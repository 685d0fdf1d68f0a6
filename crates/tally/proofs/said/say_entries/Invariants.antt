-- The sum of the marks of the rasters so far.
use Rattle.std.proofs.Common.{◌*◌, ◌≤◌}
use Rattle.tally.proofs.said.say_entries.Given as goal

abbrev pub invariant-loop-r : goal.invariant-loop-r
invariant-loop-r g l = l.total ≤ 65535 * l.r
