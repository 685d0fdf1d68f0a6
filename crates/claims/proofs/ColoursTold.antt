-- When the colour of a logical pixel tells the pixel, over any depth.
use Prim.Native.Nat.{ℕ, zero, suc, ◌%◌, ◌^◌, ◌<◌, ◌≤◌}
use mathlib.Core.Path.{◌≡◌, refl, sym, ◌∙◌, ap}
use mathlib.Core.Bool.{true, false}
use mathlib.Core.List.{[], ◌∷◌}
use mathlib.Core.Logic.{◌⊎◌, inl, inr}
use native.Mathlib.Omega.{arith}
use lib.Dec.{eqb}
use lib.ListN.{get_or}
use Rattle.buffers.proofs.Tests.{no}
use Rattle.registers.specs.Colours.{palette_of}
use Rattle.registers.specs.Control.{depth_choice, depth_of, entries_in_use}
use Rattle.registers.specs.declared.record.Registers.{Registers}
use Rattle.colours.specs.Colour.{colour_of}
use Rattle.claims.specs.Shown.{differ, Distinct, Alike}
use Rattle.claims.proofs.Bits.{by_cases, differ_self, same_entry, same_mixed, mixed_told}

-- How many entries a depth uses: as many as there are pixels, or at depth 8 as many as its low nibble picks.
abbrev pub Uses : ℕ → ℕ → Type 0
Uses d n = ((d ≡ 8) × (n ≡ 16)) ⊎ ((eqb d 8 ≡ false) × (n ≡ 2 ^ d) × (d ≤ 4))

uses_by : (k : ℕ) → k < 4 → Uses (get_or (1 ∷ 2 ∷ 4 ∷ 8 ∷ []) k 0) (get_or (2 ∷ 4 ∷ 16 ∷ 16 ∷ []) k 0)
uses_by zero h = inr (refl, refl, omega arith)
uses_by (suc zero) h = inr (refl, refl, omega arith)
uses_by (suc (suc zero)) h = inr (refl, refl, omega arith)
uses_by (suc (suc (suc zero))) h = inl (refl, refl)
uses_by (suc (suc (suc (suc k)))) h = absurd (omega arith)

uses : (g : Registers) → Uses (depth_of g) (entries_in_use g)
uses g = uses_by (depth_choice g) (omega arith)

module _ (g : Registers) where
  -- The entry of a low nibble.
  low_entry : (p : ℕ) → palette_of g (p % 16) ≡ palette_of g p
  low_entry p = let e : p % 16 % 16 ≡ p % 16 = omega arith in rw e

  told_by : (d n : ℕ) → Uses d n → ((i j : ℕ) → i < n → j < n → (i ≡ j → ⊥) → differ d (palette_of g i) (palette_of g j) ≡ true)
      → (p q : ℕ) → p < 2 ^ d → q < 2 ^ d → colour_of g d p ≡ colour_of g d q → p ≡ q
  told_by d n (inl (f, m)) distinct p q hp hq e =
      let t = mixed_told (palette_of g p) (palette_of g q) p q (rw f at e) in
      let lp : p < 256 = rw f at hp in
      let lq : q < 256 = rw f at hq in
      elim (by_cases (p % 16) (q % 16)) [
        | inl s ↦ omega (arith, t.nibbles)
        | inr s ↦
            let w : differ 8 (palette_of g p) (palette_of g q) ≡ true =
            rw f at (rw (low_entry p, low_entry q) at (distinct (p % 16) (q % 16) (rw m (omega arith)) (rw m (omega arith)) s)) in
            absurd (no (sym t.entries ∙ w))
      ]
  told_by d n (inr (f, m, l)) distinct p q hp hq e =
      elim (by_cases p q) [
        | inl s ↦ s
        | inr s ↦
            let shown : palette_of g p % 2 ^ 13 ≡ palette_of g q % 2 ^ 13 = rw f at e in
            let same : palette_of g p ≡ palette_of g q = omega arith in
            let w : differ d (palette_of g p) (palette_of g q) ≡ true = distinct p q (rw m hp) (rw m hq) s in
            absurd (no (sym (differ_self d (palette_of g q)) ∙ rw same at w))
      ]

  -- Where entries in use differ in a shown bit, different pixels have different colours.
  pub colour_tells : Distinct g → (p q : ℕ) → p < 2 ^ depth_of g → q < 2 ^ depth_of g → colour_of g (depth_of g) p ≡ colour_of g (depth_of g) q → p ≡ q
  colour_tells distinct = told_by (depth_of g) (entries_in_use g) (uses g) distinct

  alike_by : (d n i j : ℕ) → Uses d n → i < n → j < n → differ d (palette_of g i) (palette_of g j) ≡ false
      → (colour_of g d i ≡ colour_of g d j) × (i < 2 ^ d) × (j < 2 ^ d)
  alike_by d n i j (inl (f, m)) hi hj e =
      let li : i < 16 = rw m at hi in
      let lj : j < 16 = rw m at hj in
      (rw f (same_mixed (palette_of g i) (palette_of g j) i j (rw f at e) (omega arith)), rw f (omega arith), rw f (omega arith))
  alike_by d n i j (inr (f, m, l)) hi hj e =
      (rw f (ap (λ (c : ℕ). c % 2 ^ 13) (same_entry d (palette_of g i) (palette_of g j) f (omega arith) (omega arith) e)), rw m at hi, rw m at hj)

  -- Where two agree in all shown bits, the pixels that pick them have one colour.
  pub alike_colour : (i j : ℕ) → Alike g i j → (colour_of g (depth_of g) i ≡ colour_of g (depth_of g) j) × (i < 2 ^ depth_of g) × (j < 2 ^ depth_of g)
  alike_colour i j a = alike_by (depth_of g) (entries_in_use g) i j (uses g) a.i_used a.j_used a.agree
