-- Masks of the pixels seen: none, one, two masks together, the pixels of a byte, and a table of masks filled entry by entry.
use Prim.Native.Nat.{ℕ, suc, ◌+◌, ◌-◌, ◌*◌, ◌/◌, ◌%◌, ◌^◌, ◌<◌, ◌≤◌, max}
use mathlib.Core.Bool.{Bool, true, false}
use mathlib.Core.Logic.{inl, inr}
use mathlib.Core.Path.{◌≡◌, refl, sym, ◌∙◌, ap}
use native.Mathlib.Nat.{one-mul, zero-div, div_self, div-eq_of_lt, mod-lt}
use native.Mathlib.Omega.{arith}
use borrow.Author.Tests.{eqb-true, eqb-false}
use lib.Bits.{bit_or, or_step, or_shr, shifted_even}
use lib.Dec.{ltb, eqb}
use lib.ListN.{get_or}
use lib.Pow.{pow_pos, pow_mono, pow-lt, pow-add, shl_exact, shl-shr}
use Rattle.buffers.specs.Pick.{pick}
use Rattle.buffers.proofs.Split.{lt_or_le}
use Rattle.marks.specs.Count.{total, bit}
use Rattle.marks.specs.inner.Bright.{field_bright}
use Rattle.marks.specs.inner.Seen.{only, Masked}
use Rattle.marks.proofs.Flags.{only_at, joined}
use Rattle.marks.proofs.Totals.{total_more}

-- A bit tells its test.
pub bit_on : (t : Bool) → ltb 0 (bit t) ≡ t
bit_on true = refl
bit_on false = refl

pub masked_none : Masked 0 (λ q. 0)
masked_none = record { on = λ q l. rw (zero-div (2 ^ q)) }

pub masked_as : {mask : ℕ} {times others : ℕ → ℕ} → ((q : ℕ) → q < 16 → times q ≡ others q) → Masked mask times → Masked mask others
masked_as e m = record { on = λ q l. m.on q l ∙ ap (λ n. bit (ltb 0 n)) (e q l) }

or_odd : (a b : ℕ) → bit_or a b % 2 ≡ max (a % 2) (b % 2)
or_odd a b = omega (arith, or_step a b)

max_bits : (s t : Bool) → max (bit s) (bit t) ≡ pick t 1 (bit s)
max_bits true true = refl
max_bits true false = refl
max_bits false true = refl
max_bits false false = refl

pub masked_or : {a b : ℕ} {times others : ℕ → ℕ} → Masked a times → Masked b others → Masked (bit_or a b) (λ q. times q + others q)
masked_or {a} {b} {times} {others} m n =
    record {
      on = λ q l.
          ap (λ k. k % 2) (or_shr a b q)
          ∙ or_odd (a / 2 ^ q) (b / 2 ^ q)
          ∙ rw (m.on q l, n.on q l, max_bits (ltb 0 (times q)) (ltb 0 (others q))) (joined (times q) (others q) 0);
    }

-- Of a power of two one bit is set.
pow_bit : (p q : ℕ) → 2 ^ p / 2 ^ q % 2 ≡ bit (eqb p q)
pow_bit p q = by (eqb p q) refl
  where
    higher : (m : ℕ) → p ≡ suc m + q → 2 ^ p / 2 ^ q % 2 ≡ 0
    higher m e = rw (e, pow-add 2 (suc m) q, shl-shr (2 ^ suc m) q, ← one-mul (2 ^ suc m)) (shifted_even 1 m)

    other : (p ≡ q → ⊥) → 2 ^ p / 2 ^ q % 2 ≡ 0
    other n =
        elim (lt_or_le p q) [
          | inl l ↦ rw (div-eq_of_lt (pow-lt l))
          | inr l ↦ higher (p - q - 1) (omega arith)
        ]

    by : (t : Bool) → eqb p q ≡ t → 2 ^ p / 2 ^ q % 2 ≡ bit t
    by true e = rw (eqb-true p q e, div_self (pow_pos q))
    by false e = other (eqb-false p q e)

pub masked_one : (p : ℕ) → Masked (2 ^ p) (λ q. get_or (only q) p 0)
masked_one p = record { on = λ q l. pow_bit p q ∙ sym (ap bit (ap (ltb 0) (only_at q p (omega arith)) ∙ bit_on (eqb p q))) }

-- At depths up to 4 a pixel is below sixteen.
pub bits_low : (x d : ℕ) → d ≤ 4 → x % 2 ^ d < 16
bits_low x d l = omega (arith, mod-lt x (pow_pos d), pow_mono {j = 4} l)

-- A byte's pixel j among those below it.
pub byte_held : (d byte mask low j : ℕ) → d ≤ 4 → low ≡ byte / 2 ^ (j * d) % 2 ^ d
    → Masked mask (λ q. total (field_bright (only q) d byte) j)
    → Masked (bit_or mask (1 * 2 ^ low % 2 ^ 32)) (λ q. total (field_bright (only q) d byte) (j + 1))
byte_held d byte mask low j l e m =
    let one : 1 * 2 ^ low % 2 ^ 32 ≡ 2 ^ low =
    shl_exact {a = 1} 1 low 32 (omega arith) (omega (arith, e, bits_low (byte / 2 ^ (j * d)) d l)) ∙ one-mul (2 ^ low) in
    rw one (masked_as (λ q h. rw (total_more, ← e)) (masked_or m (masked_one low)))
