-- A picture that is written can be read again: its head is a right one of N x V, whose digits say them, and each raster's bytes are right.
use Prim.Native.Nat.{ℕ, zero, suc, ◌+◌, ◌-◌, ◌*◌, ◌/◌, ◌%◌, ◌^◌, ◌<◌, ◌≤◌}
use mathlib.Core.Bool.{true}
use mathlib.Core.List.{List, [], ◌∷◌}
use mathlib.Core.Logic.{inl, inr}
use mathlib.Core.Path.{◌≡◌, refl, sym, ◌∙◌, ap}
use native.Mathlib.Nat.{pow-suc, mul_comm, mul_assoc, mul_left_comm, add-mul, mod-eq_of_lt}
use native.Mathlib.Omega.{arith}
use borrow.Author.Tests.{le-leb, ltb-true, ltb-false}
use lib.Arith.{mod-mul}
use Rattle.buffers.proofs.Split.{lt_or_le}
use Rattle.buffers.proofs.Tests.{and_join}
use Rattle.buffers.proofs.Values.{length_values}
use Rattle.registers.proofs.First.{lowest_passes, lowest_fails}
use Rattle.registers.proofs.Groups.{lowest_least}
use Rattle.registers.specs.declared.record.Registers.{Registers}
use Rattle.registers.specs.declared.setting.Setting.{Setting}
use Rattle.frame.specs.Frame.{raster_cell}
use Rattle.pictures.specs.Each.{each}
use Rattle.pictures.specs.Head.{is_white, is_digit, blank, spelled, said_behind, Numbered, RightHead}
use Rattle.pictures.specs.Read.{read_right}
use Rattle.pictures.proofs.ReadBack.{guns_right}
use Rattle.outputs.specs.Decimal.{fits_in, places, digits, decimal}
use Rattle.outputs.specs.Strip.{strip_head, raster_strip}
use Rattle.outputs.specs.Text.{labelled, pair_line}
use Rattle.outputs.proofs.Lengths.{length_decimal}

-- Digits say, behind a number, what they are the lowest digits of.
power : (k : ℕ) → 0 < 10 ^ k
power zero = omega arith
power (suc k) = omega (arith, power k)

digits_say : (m n k : ℕ) → said_behind m (digits n k) ≡ m * 10 ^ k + n % 10 ^ k
unfolding said_behind digits
digits_say m n zero = omega arith
digits_say m n (suc k) =
    let c = 10 ^ k in
    let x = n / c % 10 in
    let low : n % 10 ^ suc k ≡ x * c + n % c = ap (λ (d : ℕ). n % d) (pow-suc 10 k ∙ mul_comm c 10) ∙ mod-mul n {m = 10} {c = c} (omega arith) (power k) in
    let high : m * 10 ^ suc k ≡ 10 * m * c = ap (λ (d : ℕ). m * d) (pow-suc 10 k ∙ mul_comm c 10) ∙ mul_left_comm m 10 c ∙ sym (mul_assoc 10 m c) in
    let same : 10 * m + (48 + x - 48) ≡ 10 * m + x = omega arith in
    ap (λ (a : ℕ). said_behind a (digits n k)) same ∙ digits_say (10 * m + x) n k ∙ omega (arith, low, high, add-mul (10 * m) x c)

-- A number of 16 bits has no more than its places, each a digit.
module _ (n : ℕ) (few : n ≤ 65535) where
  under_ten : places n < 10
  under_ten =
      elim (lt_or_le (places n) 10) [
        | inl h ↦ h
        | inr h ↦ absurd (omega (arith, few, ltb-false n (10 ^ 5) (lowest_fails (fits_in n) 9 1 5 (omega arith) (omega (arith, h)))))
      ]

  decimal_says : said_behind 0 (decimal n) ≡ n
  unfolding decimal
  decimal_says =
      let fits : n < 10 ^ places n = ltb-true n (10 ^ places n) (lowest_passes (fits_in n) 9 1 (omega (arith, under_ten))) in
      digits_say 0 n (places n) ∙ omega (arith, mod-eq_of_lt fits)

digit_is : (q : ℕ) → is_digit (48 + q % 10) ≡ true
digit_is q = and_join (le-leb 48 (48 + q % 10) (omega arith)) (le-leb (48 + q % 10) 57 (omega arith))

digits_are : (n k : ℕ) → each is_digit (digits n k) ≡ true
unfolding each digits
digits_are n zero = refl
digits_are n (suc k) = and_join (digit_is (n / 10 ^ k)) (digits_are n k)

-- A number behind one white byte.
blank_number : (byte n : ℕ) → n ≤ 65535 → is_white byte ≡ true → Numbered n (byte ∷ decimal n)
unfolding each spelled decimal
blank_number byte n few white = record {
  white = blank byte ∷ [];
  digits = decimal n;
  some_white = omega arith;
  some_digits = omega (arith, length_decimal n, lowest_least (fits_in n) 9 1);
  are_white = and_join white refl;
  are_digits = digits_are n (places n);
  says = decimal_says n few;
  is = refl;
}

-- The head, and each raster.
pub head_right : (n v : ℕ) → n ≤ 65535 → v ≤ 65535 → RightHead n v (strip_head n v)
unfolding each spelled said_behind labelled pair_line
head_right n v wide high = record {
  width = 10 ∷ decimal n;
  height = 32 ∷ decimal v;
  greatest = 10 ∷ 50 ∷ 53 ∷ 53 ∷ [];
  last = 10;
  width_is = blank_number 10 n wide refl;
  height_is = blank_number 32 v high refl;
  greatest_is = record {
    white = blank 10 ∷ [];
    digits = 50 ∷ 53 ∷ 53 ∷ [];
    some_white = omega arith;
    some_digits = omega arith;
    are_white = refl;
    are_digits = refl;
    says = refl;
    is = refl;
  };
  last_is = refl;
  is = refl;
}

pub raster_right : (g : Registers) (s : Setting) (video cursor : List ℕ) (y room : ℕ) → s.n.0 ≤ room → read_right (raster_strip g s video cursor y) room ≡ true
unfolding raster_strip
raster_right g s video cursor y room h = guns_right _ room (omega (arith, h, length_values (raster_cell g s video cursor y) 0 s.n.0))
