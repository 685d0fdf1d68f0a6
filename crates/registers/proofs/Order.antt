-- What a derived comparison of two counts answers is the test of their numbers.
use Prim.Native.Nat.{ℕ}
use mathlib.Core.Path.{◌≡◌}
use native.Mathlib.Omega.{arith}
use lib.Dec.{ltb, leb}
use Rattle.std.specs.Ordering.{nat_cmp, is_le, is_lt}
use Rattle.std.proofs.lemmas.Grind.{common_steps}

pub at_most : (a b : ℕ) → is_le (nat_cmp a b) ≡ leb a b
at_most a b = grind (arith, common_steps)

pub below : (a b : ℕ) → is_lt (nat_cmp a b) ≡ ltb a b
below a b = grind (arith, common_steps)
