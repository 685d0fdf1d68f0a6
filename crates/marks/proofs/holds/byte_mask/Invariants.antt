-- The pixels of a byte: after each turn the mask is that of the j lowest.
use Rattle.marks.specs.Count.{total}
use Rattle.marks.specs.inner.Bright.{field_bright}
use Rattle.marks.specs.inner.Seen.{only, Masked}
use Rattle.marks.proofs.holds.byte_mask.Given as goal

abbrev pub invariant-loop-j : goal.invariant-loop-j
invariant-loop-j l = Masked l.mask (λ q. total (field_bright (only q) l.depth l.byte) l.j)
