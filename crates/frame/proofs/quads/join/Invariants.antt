-- Byte after byte: after each turn the cells of the bytes below b stand at their four places.
use Rattle.std.proofs.Common.{◌≡◌, length}
use Rattle.frame.proofs.QuadCells.{Placed}
use Rattle.frame.proofs.quads.join.Given as goal

abbrev pub invariant-loop-b : goal.invariant-loop-b
invariant-loop-b l = (length l.quads ≡ 1024) × Placed l.table l.quads l.b
