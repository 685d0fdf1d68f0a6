-- Signed values as the machine has them: every value fits 16 bits, and is within ±23,712 at six sixths or fewer.
use Rattle.std.proofs.Common.{◌≡◌, ℕ, zero, suc, ◌*◌, ◌%◌, ◌<◌, ◌≤◌, Bool, true, false, eqb, ℤ, pos, negsuc, ◌-ℤ◌, ◌*ℤ◌, neg_ℤ, nat_abs, refl, ap}
use Rattle.std.proofs.Common.{◌∙◌, mul-le-mul, arith, to_z-of_z, w16, SFits, to_z, of_z, eq-eqb, ne_eqb}
use lib.IntN.{+ℤ_idl}
use mir.Facts.{to_z_pos}
use Rattle.buffers.specs.Pick.{pick}
use Rattle.sound.specs.Amplitude.{amplitude_of, signed_of, value_of}
use Rattle.sound.proofs.Amplitudes.{amplitude_most}

abs_neg : (k : ℕ) → nat_abs (neg_ℤ (pos k)) ≡ k
abs_neg zero = refl
abs_neg (suc k) = refl

abs_times : (z : ℤ) (n : ℕ) → nat_abs (z *ℤ pos n) ≡ nat_abs z * n
abs_times (pos m) n = refl
abs_times (negsuc m) n = abs_neg (suc m * n)

fits : (z : ℤ) → nat_abs z ≤ 32767 → SFits w16 z
fits (pos n) h = record { sfits = omega arith }
fits (negsuc n) h = record { sfits = omega arith }

-- the amplitude is at most 3952, whatever the sign
signed_abs : (byte : ℕ) → byte < 256 → nat_abs (signed_of byte) ≤ 3952
unfolding signed_of
signed_abs byte h = go (eqb (byte % 2) 1)
  where
    go : (t : Bool) → nat_abs (pick t (neg_ℤ (pos (amplitude_of byte))) (pos (amplitude_of byte))) ≤ 3952
    go true = rw (abs_neg (amplitude_of byte)) (amplitude_most byte h)
    go false = amplitude_most byte h

value_abs : (byte sixths n : ℕ) → byte < 256 → sixths ≤ n → nat_abs (value_of byte sixths) ≤ 3952 * n
unfolding value_of
value_abs byte sixths n h k = rw (abs_times (signed_of byte) sixths) (mul-le-mul (signed_abs byte h) k)

-- the paper's bound
pub value_range : (byte sixths : ℕ) → byte < 256 → sixths ≤ 6 → nat_abs (value_of byte sixths) ≤ 23712
value_range byte sixths h k = value_abs byte sixths 6 h k

module _ (byte : ℕ) (h : byte < 256) where
  a_small : amplitude_of byte < 32768
  a_small = omega (arith, amplitude_most byte h)

  pub amplitude_fits : SFits w16 (pos (amplitude_of byte))
  amplitude_fits = fits (pos (amplitude_of byte)) (omega (arith, amplitude_most byte h))

  machine_neg : pos 0 -ℤ to_z w16 (amplitude_of byte) ≡ neg_ℤ (pos (amplitude_of byte))
  machine_neg = ap (λ (z : ℤ). pos 0 -ℤ z) (to_z_pos w16 a_small) ∙ +ℤ_idl (neg_ℤ (pos (amplitude_of byte)))

  pub neg_fits : (a : ℕ) → a ≡ amplitude_of byte → SFits w16 (pos 0 -ℤ to_z w16 a)
  neg_fits a e = rw (e, machine_neg) (fits (neg_ℤ (pos (amplitude_of byte))) (omega (arith, abs_neg (amplitude_of byte), amplitude_most byte h)))

  pub negative : (a : ℕ) → a ≡ amplitude_of byte → byte % 2 ≡ 1 → to_z w16 (of_z w16 (pos 0 -ℤ to_z w16 a)) ≡ signed_of byte
  unfolding signed_of
  negative a e t = to_z-of_z (neg_fits a e) ∙ rw (e, machine_neg, eq-eqb (byte % 2) 1 t)

  pub positive : (a : ℕ) → a ≡ amplitude_of byte → (byte % 2 ≡ 1 → ⊥) → to_z w16 a ≡ signed_of byte
  unfolding signed_of
  positive a e t = rw (e, ne_eqb (byte % 2) 1 t) (to_z_pos w16 a_small)

  module _ (sixths : ℕ) (k : sixths ≤ 7) (m : ℤ) (e : m ≡ signed_of byte) where
    product : to_z w16 (of_z w16 m) *ℤ to_z w16 sixths ≡ value_of byte sixths
    unfolding value_of
    product =
        rw (e, to_z-of_z (fits (signed_of byte) (omega (arith, signed_abs byte h))), to_z_pos w16 {n = sixths} (omega arith))

    value_fits : SFits w16 (value_of byte sixths)
    value_fits = fits (value_of byte sixths) (omega (arith, value_abs byte sixths 7 h k))

    pub product_fits : SFits w16 (to_z w16 (of_z w16 m) *ℤ to_z w16 sixths)
    product_fits = rw product value_fits

    pub product_is : to_z w16 (of_z w16 (to_z w16 (of_z w16 m) *ℤ to_z w16 sixths)) ≡ value_of byte sixths
    product_is = to_z-of_z product_fits ∙ product

-- a value stored is itself
pub stored : (byte sixths : ℕ) (z : ℤ) → byte < 256 → sixths ≤ 7 → z ≡ value_of byte sixths → to_z w16 (of_z w16 z) ≡ value_of byte sixths
stored byte sixths z h k e = ap (λ (y : ℤ). to_z w16 (of_z w16 y)) e ∙ to_z-of_z (value_fits byte h sixths k (signed_of byte) refl)
