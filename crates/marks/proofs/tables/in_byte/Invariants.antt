-- The pixels of a byte: after each turn the sum is that over the j lowest.
use Rattle.std.proofs.Common.{◌≡◌}
use Rattle.marks.specs.Count.{total}
use Rattle.marks.specs.inner.Bright.{field_bright}
use Rattle.marks.proofs.tables.in_byte.Given as goal

abbrev pub invariant-loop-j : goal.invariant-loop-j
invariant-loop-j l = l.sum ≡ total (field_bright l.pixels l.depth l.byte) l.j
