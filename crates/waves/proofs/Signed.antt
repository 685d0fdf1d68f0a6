-- A sample's bits from a signed value as the machine has it: a value as it is stored is itself, and a negative one with 65,536 added is its two's complement.
use Prim.Native.Nat.{suc, ◌<◌, zero-le}
use mathlib.Core.Path.{◌≡◌, refl, sym, ◌∙◌, ap}
use mathlib.Core.Bool.{true, false, true≢false}
use native.Mathlib.Omega.{arith}
use lib.IntN.{ℤ, pos, negsuc, ◌+ℤ◌}
use lib.Signed.{lt_z}
use borrow.Author.Tests.{le-ltb}
use mir.Syntax.{w16, w32}
use mir.Val.{Fits, SFits, to_z, of_z}
use mir.Facts.{to_z-of_z, sfits_widen, Fits-of_lt}
use Rattle.waves.specs.Samples.{sample_of}

module _ (z : ℤ) (f : SFits w16 z) where
  read : to_z w16 (of_z w16 z) ≡ z
  read = to_z-of_z f

  wide_read : to_z w32 (of_z w32 (to_z w16 (of_z w16 z))) ≡ z
  wide_read = rw read (to_z-of_z {w = w32} (sfits_widen tt f))

  pub wide_fits : SFits w32 (to_z w16 (of_z w16 z))
  wide_fits = rw read (sfits_widen tt f)

-- 65,536 more than a negative value
pub record Lifted (z : ℤ) : Type 0 where
  pub sum : pos 65536 +ℤ z ≡ pos (sample_of z)
  pub small : sample_of z < 65536

lifted : (z : ℤ) → SFits w16 z → lt_z z (pos 0) ≡ true → Lifted z
lifted (pos n) f h = absurd (true≢false (sym h ∙ le-ltb n 0 zero-le))
lifted (negsuc n) f h =
    let b : n < 32768 = f.sfits in
    record { sum = rw (le-ltb 65536 (suc n) (omega arith)) (ap pos (omega arith)); small = omega arith }

module _ (z : ℤ) (f : SFits w16 z) (h : lt_z (to_z w16 (of_z w16 z)) (pos 0) ≡ true) where
  l : Lifted z
  l = lifted z f (rw (read z f) at h)

  sum_is : pos 65536 +ℤ to_z w32 (of_z w32 (to_z w16 (of_z w16 z))) ≡ pos (sample_of z)
  sum_is = rw (wide_read z f) l.sum

  pub sum_fits : SFits w32 (pos 65536 +ℤ to_z w32 (of_z w32 (to_z w16 (of_z w16 z))))
  sum_fits = rw sum_is (record { sfits = omega (arith, l.small) })

  pub negative_bits : to_z w32 (of_z w32 (pos 65536 +ℤ to_z w32 (of_z w32 (to_z w16 (of_z w16 z))))) ≡ pos (sample_of z)
  negative_bits = to_z-of_z sum_fits ∙ sum_is

  pub negative_small : Fits w16 (sample_of z)
  negative_small = Fits-of_lt l.small

-- a value that is not negative
natural : (z : ℤ) → lt_z z (pos 0) ≡ false → z ≡ pos (sample_of z)
natural (pos n) h = refl
natural (negsuc n) h = absurd (true≢false h)

module _ (z : ℤ) (f : SFits w16 z) (h : lt_z (to_z w16 (of_z w16 z)) (pos 0) ≡ false) where
  same : z ≡ pos (sample_of z)
  same = natural z (rw (read z f) at h)

  pub positive_bits : to_z w16 (of_z w16 z) ≡ pos (sample_of z)
  positive_bits = read z f ∙ same

  pub positive_small : Fits w16 (sample_of z)
  positive_small = let g : SFits w16 (pos (sample_of z)) = rw (← same) f in Fits-of_lt (omega (arith, g.sfits))
