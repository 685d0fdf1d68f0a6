-- Laws of the lowest slot that passes a test.
use Prim.Native.Nat.{ℕ, zero, suc, ◌+◌, ◌-◌, ◌<◌, ◌≤◌}
use mathlib.Core.Path.{◌≡◌, refl, sym, ◌∙◌, ap}
use mathlib.Core.Bool.{Bool, true, false}
use mathlib.Core.Logic.{◌⊎◌, inl, inr}
use Rattle.std.specs.Prelude.{Some, None}
use lib.Dec.{ltb}
use borrow.Author.Tests.{ltb-true, lt-ltb}
use native.Mathlib.Nat.{eq-or-lt_of_le}
use native.Mathlib.Numerals.{add-one}
use native.Mathlib.Omega.{arith}
use Rattle.buffers.specs.Pick.{pick}
use Rattle.registers.specs.Lowest.{lowest, lowest_slot}

module _ (test : ℕ → Bool) where
  -- one step of the loop over n slots, at slot k
  pub lowest_here : (n k : ℕ) → k < n → test k ≡ true → lowest test (n - k) k ≡ k
  unfolding lowest
  lowest_here n k h e = let q : n - k ≡ suc (n - (k + 1)) = omega arith in rw (q, e)

  pub lowest_more : (n k : ℕ) → k < n → test k ≡ false → lowest test (n - k) k ≡ lowest test (n - (k + 1)) (k + 1)
  unfolding lowest
  lowest_more n k h e = let q : n - k ≡ suc (n - (k + 1)) = omega arith in rw (q, e, add-one)

  pub lowest_end : (n k : ℕ) → k ≡ n → lowest test (n - k) k ≡ k
  unfolding lowest
  lowest_end n k e = let q : n - k ≡ 0 = omega arith in rw q

  -- it is one of the slots asked, or the one after them
  pub lowest_most : (n k : ℕ) → lowest test n k ≤ k + n
  unfolding lowest
  lowest_most zero k = omega arith
  lowest_most (suc n) k = go (test k) (lowest_most n (suc k))
    where
      go : (b : Bool) → lowest test n (suc k) ≤ suc k + n → pick b k (lowest test n (suc k)) ≤ k + suc n
      go true h = omega arith
      go false h = omega arith

  -- where it is one of them it passes the test
  pub lowest_passes : (n k : ℕ) → lowest test n k < k + n → test (lowest test n k) ≡ true
  unfolding lowest
  lowest_passes zero k h = absurd (omega arith)
  lowest_passes (suc n) k h = go (test k) refl h (λ i. lowest_passes n (suc k) i)
    where
      rest : ℕ
      rest = lowest test n (suc k)

      go : (b : Bool) → test k ≡ b → pick b k rest < k + suc n → (rest < suc k + n → test rest ≡ true) → test (pick b k rest) ≡ true
      go true e h more = e
      go false e h more = more (omega arith)

  -- and none below it does
  pub lowest_fails : (n k j : ℕ) → k ≤ j → j < lowest test n k → test j ≡ false
  unfolding lowest
  lowest_fails zero k j a h = absurd (omega arith)
  lowest_fails (suc n) k j a h = go (test k) refl h (λ i. lowest_fails n (suc k) j i) (eq-or-lt_of_le a)
    where
      rest : ℕ
      rest = lowest test n (suc k)

      go : (b : Bool) → test k ≡ b → j < pick b k rest → (suc k ≤ j → j < rest → test j ≡ false) → (k ≡ j) ⊎ (k < j) → test j ≡ false
      go true e h more (inl q) = absurd (omega arith)
      go true e h more (inr l) = absurd (omega arith)
      go false e h more (inl q) = ap test (sym q) ∙ e
      go false e h more (inr l) = more (omega arith) h

  -- where one of the 64 passes the test, it is that slot,
  pub slot_given : (k : ℕ) → Some k ≡ lowest_slot test → (lowest test 64 0 ≡ k) × (k < 64)
  slot_given k e = go (ltb (lowest test 64 0) 64) refl e
    where
      go : (b : Bool) → ltb (lowest test 64 0) 64 ≡ b → Some k ≡ pick b (Some (lowest test 64 0)) None → (lowest test 64 0 ≡ k) × (k < 64)
      go true h q = let same : lowest test 64 0 ≡ k = cc in (same, rw same at (ltb-true _ _ h))
      go false h q = cc

  -- and where none does, it is none of them
  pub none_given : None ≡ lowest_slot test → ltb (lowest test 64 0) 64 ≡ false
  none_given e = go (ltb (lowest test 64 0) 64) e
    where
      go : (b : Bool) → None ≡ pick b (Some (lowest test 64 0)) None → b ≡ false
      go true q = cc
      go false q = refl

  pub slot_is : (k : ℕ) → lowest test 64 0 ≡ k → k < 64 → lowest_slot test ≡ Some k
  slot_is k e h = rw (e, lt-ltb k 64 h)

  pub slot_is_none : lowest test 64 0 ≡ 64 → lowest_slot test ≡ None
  slot_is_none e = rw e

-- what a search for the lowest slot gives
pub ruleset slots = (slot_given, none_given)
