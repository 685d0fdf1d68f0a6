-- Powers of ten, and the digits of a number: how many, and stored from the last one on.
use Prim.Native.Nat.{ℕ, zero, suc, ◌+◌, ◌*◌, ◌/◌, ◌^◌, ◌<◌, ◌≤◌, max}
use mathlib.Core.Path.{◌≡◌, refl, sym, ap, ◌∙◌}
use mathlib.Core.List.{List, [], ◌∷◌}
use mathlib.Core.Logic.{inl, inr}
use native.Mathlib.Nat.{pow-suc, pow-le-pow_right, div-div-eq-div-mul}
use native.Mathlib.Numerals.{add-one}
use native.Mathlib.Omega.{arith}
use lib.ListN.{length, set}
use lib.Seq.{sets}
use borrow.Author.Tests.{ltb-true, ltb-false}
use Rattle.std.proofs.lemmas.List.{set_comm}
use Rattle.buffers.proofs.Split.{lt_or_le}
use Rattle.registers.proofs.First.{lowest_passes, lowest_fails}
use Rattle.registers.proofs.Groups.{lowest_least}
use Rattle.outputs.specs.Decimal.{fits_in, places, digit_of, digits}

pub length_digits : (n k : ℕ) → length (digits n k) ≡ k
unfolding digits
length_digits n zero = refl
length_digits n (suc k) = ap suc (length_digits n k)

-- the power of ten that a number reaches tells its places; 0 has one
module _ (n m r : ℕ) (e : m ≡ max n 1) (low : 10 ^ r ≤ m) (high : m < 10 * 10 ^ r) (few : r < 10) where
  no_fewer : places n < r + 1 → ⊥
  no_fewer h =
      let below = ltb-true n (10 ^ places n) (lowest_passes (fits_in n) 9 1 (omega arith)) in
      let some = lowest_least (fits_in n) 9 1 in
      let up : 10 ^ places n ≤ 10 ^ r = pow-le-pow_right {n = 10} (omega arith) (omega arith) in
      let ten : 10 ^ 1 ≤ 10 ^ places n = pow-le-pow_right {n = 10} (omega arith) some in
      omega (arith, below, up, ten)

  no_more : r + 1 < places n → ⊥
  no_more h =
      let above = ltb-false n (10 ^ (r + 1)) (lowest_fails (fits_in n) 9 1 (r + 1) (omega arith) h) in
      let next : 10 ^ (r + 1) ≡ 10 ^ r * 10 = rw add-one (pow-suc 10 r) in
      omega (arith, above, next)

  pub places_are : r + 1 ≡ places n
  places_are = elim (lt_or_le (places n) (r + 1)) [
    | inl h ↦ absurd (no_fewer h)
    | inr h ↦ elim (lt_or_le (r + 1) (places n)) [ inl t ↦ absurd (no_more t) | inr t ↦ omega arith ]
  ]

-- what is left of a number after k + 1 digits
pub left_after : (n k : ℕ) → n / 10 ^ k / 10 ≡ n / 10 ^ suc k
left_after n k = div-div-eq-div-mul n (10 ^ k) 10 ∙ ap (λ (m : ℕ). n / m) (sym (pow-suc 10 k))

-- a digit stored left of those that stand
set_before : (o vs : List ℕ) (i a x : ℕ) → i < a → set (sets o a vs) i x ≡ sets (set o i x) a vs
set_before o [] i a x h = refl
set_before o (v ∷ vs) i a x h =
    set_before (set o a v) vs i (suc a) x (omega arith)
    ∙ ap (λ (l : List ℕ). sets l (suc a) vs) (set_comm o a i v x (λ q. omega arith))

pub digit_more : (o : List ℕ) (i n k : ℕ) → set (sets o (suc i) (digits n k)) i (digit_of n k) ≡ sets o i (digits n (suc k))
unfolding digits
digit_more o i n k = set_before o (digits n k) i (suc i) (digit_of n k) (omega arith)

pub digits_none : (o : List ℕ) (i n k : ℕ) → k ≡ 0 → sets o i (digits n k) ≡ o
unfolding digits
digits_none o i n k e = rw e
