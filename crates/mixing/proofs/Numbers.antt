-- The camera's first number of more than 12 bits: n where none of the first n has, and else the place before which none has.
use Prim.Native.Nat.{ℕ, ◌<◌}
use mathlib.Core.List.{List}
use mathlib.Core.Path.{◌≡◌, refl, sym, ◌∙◌}
use native.Mathlib.Omega.{arith}
use borrow.Author.Tests.{lt-ltb, le-ltb}
use lib.ListN.{get_or}
use Rattle.registers.proofs.First.{lowest_here, lowest_end}
use Rattle.registers.proofs.Groups.{lowest_skip}
use Rattle.mixing.specs.Mix.{too_large, first_too_large}
use Rattle.mixing.specs.inner.First.{FewBefore}

module _ (camera : List ℕ) (n : ℕ) where
  pub all_few : FewBefore camera n → n ≡ first_too_large camera n
  all_few few =
      sym
      (lowest_skip (too_large camera) n n (omega arith) (λ j h. le-ltb 4095 (get_or camera j 0) (few j h))
      ∙ lowest_end (too_large camera) n n refl)

  pub first_at : (i : ℕ) → i < n → 4095 < get_or camera i 0 → FewBefore camera i → first_too_large camera n ≡ i
  first_at i here above first =
      lowest_skip (too_large camera) n i (omega arith) (λ j h. le-ltb 4095 (get_or camera j 0) (first j h))
      ∙ lowest_here (too_large camera) n i here (lt-ltb 4095 (get_or camera i 0) above)
