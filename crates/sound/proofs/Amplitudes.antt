-- 16 and the point, shifted by the chord: no bit is lost, and what comes of it is from 16 to 3968.
use Rattle.std.proofs.Common.{◌≡◌, ℕ, ◌+◌, ◌*◌, ◌/◌, ◌%◌, ◌^◌, ◌<◌, ◌≤◌, ◌∙◌, le_refl, mul_comm, mul-le-mul, arith, pow_pos, pow_mono, shl_exact}
use Rattle.sound.specs.Amplitude.{point_of, chord_of, amplitude_of}

-- a shift in 16 bits that loses none leaves at least as much
pub shifted_least : (x n : ℕ) → x < 2 ^ 8 → n ≤ 8 → x ≤ x * 2 ^ n % 2 ^ 16
shifted_least x n h k = rw (shl_exact 8 n 16 h (omega arith)) (omega (arith, mul-le-mul {m₁ = 1} (le_refl x) (pow_pos n)))

module _ (byte : ℕ) (h : byte < 256) where
  -- nothing stands above the chord
  pub shifted : (point_of byte + 16) * 2 ^ (byte / 32) % 2 ^ 16 ≡ 2 ^ chord_of byte * (point_of byte + 16)
  shifted =
      let top : chord_of byte ≡ byte / 32 = omega arith in
      rw top (shl_exact 5 (byte / 32) 16 (omega arith) (omega arith) ∙ mul_comm (point_of byte + 16) (2 ^ (byte / 32)))

  shifted_most : 2 ^ chord_of byte * (point_of byte + 16) ≤ 3968
  shifted_most = mul-le-mul {n₂ = 2 ^ 7} {m₂ = 31} (pow_mono {j = 7} (omega arith)) (omega arith)

  pub amplitude_most : amplitude_of byte ≤ 3952
  unfolding amplitude_of
  amplitude_most = omega (arith, shifted_most)
