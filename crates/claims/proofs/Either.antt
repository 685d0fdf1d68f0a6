-- The two cases of demand 3 leave no third: entries in use differ in a shown bit everywhere, or two agree in all of them.
use Prim.Native.Nat.{ℕ, zero, suc, ◌<◌, ◌≤◌}
use mathlib.Core.Path.{◌≡◌, sym, subst}
use mathlib.Core.Bool.{true, false}
use mathlib.Core.Logic.{◌⊎◌, inl, inr}
use native.Mathlib.Omega.{arith}
use Rattle.buffers.proofs.Split.{lt_or_le, true_or_false}
use Rattle.registers.specs.Control.{depth_of, entries_in_use}
use Rattle.registers.specs.Colours.{palette_of}
use Rattle.registers.specs.declared.record.Registers.{Registers}
use Rattle.claims.specs.Shown.{differ, Distinct, TwoAlike}
use Rattle.claims.proofs.Bits.{by_cases}

module _ (g : Registers) where
  abbrev pub Apart : ℕ → ℕ → Type 0
  Apart i j = (i ≡ j → ⊥) → differ (depth_of g) (palette_of g i) (palette_of g j) ≡ true

  pair : (i j : ℕ) → i < entries_in_use g → j < entries_in_use g → Apart i j ⊎ TwoAlike g
  pair i j p q = go (by_cases i j) (true_or_false (differ (depth_of g) (palette_of g i) (palette_of g j)))
    where
      go : (i ≡ j) ⊎ (i ≡ j → ⊥)
          → (differ (depth_of g) (palette_of g i) (palette_of g j) ≡ true) ⊎ (differ (depth_of g) (palette_of g i) (palette_of g j) ≡ false)
          → Apart i j ⊎ TwoAlike g
      go (inl e) t = inl (λ places. absurd (places e))
      go (inr places) (inl t) = inl (λ _. t)
      go (inr places) (inr t) = inr (i, j, record { i_used = p; j_used = q; places = places; agree = t })

  -- One more entry beside those before it.
  one_more : (m : ℕ) (A : ℕ → Type 0) → ((j : ℕ) → j < m → A j) ⊎ TwoAlike g → A m ⊎ TwoAlike g → ((j : ℕ) → j < suc m → A j) ⊎ TwoAlike g
  one_more m A (inr t) b = inr t
  one_more m A (inl a) (inr t) = inr t
  one_more m A (inl a) (inl b) = inl each
    where
      each : (j : ℕ) → j < suc m → A j
      each j l = elim (lt_or_le j m) [ inl k ↦ a j k | inr k ↦ let e : j ≡ m = omega arith in subst A (sym e) b ]

  with_others : (i m : ℕ) → i < entries_in_use g → m ≤ entries_in_use g → ((j : ℕ) → j < m → Apart i j) ⊎ TwoAlike g
  with_others i zero p h = inl (λ j l. absurd (let none : ⊥ = omega arith in none))
  with_others i (suc m) p h = one_more m (Apart i) (with_others i m p (omega arith)) (pair i m p (omega arith))

  up_to : (m : ℕ) → m ≤ entries_in_use g → ((i : ℕ) → i < m → (j : ℕ) → j < entries_in_use g → Apart i j) ⊎ TwoAlike g
  up_to zero h = inl (λ i l. absurd (let none : ⊥ = omega arith in none))
  up_to (suc m) h =
      one_more m (λ i. (j : ℕ) → j < entries_in_use g → Apart i j) (up_to m (omega arith)) (with_others m (entries_in_use g) (omega arith) (omega arith))

  pub distinct_or_alike : Distinct g ⊎ TwoAlike g
  distinct_or_alike = go (up_to (entries_in_use g) (omega arith))
    where
      go : ((i : ℕ) → i < entries_in_use g → (j : ℕ) → j < entries_in_use g → Apart i j) ⊎ TwoAlike g → Distinct g ⊎ TwoAlike g
      go (inl a) = inl (λ i j p q. a i p j q)
      go (inr t) = inr t
