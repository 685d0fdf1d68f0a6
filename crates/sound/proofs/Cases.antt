-- Both zeros, both ends, and the sixths of each stereo value.
use Rattle.std.proofs.Common.{◌≡◌, ℕ, pos, negsuc, refl}
use lib.IntN.{zero-*ℤ}
use Rattle.sound.specs.Amplitude.{amplitude_of, signed_of, value_of}
use Rattle.sound.specs.Sixths.{left_of}

-- Zero has two bytes, at any sixths.
pub zeros : (sixths : ℕ) → (value_of 0x00 sixths ≡ pos 0) × (value_of 0x01 sixths ≡ pos 0)
unfolding value_of signed_of amplitude_of
zeros sixths = (zero-*ℤ (pos sixths), zero-*ℤ (pos sixths))

-- The ends of the range.
pub ends : (value_of 0xFE 6 ≡ pos 23712) × (value_of 0xFF 6 ≡ negsuc 23711)
unfolding value_of signed_of amplitude_of
ends = (refl, refl)

-- Stereo values 1 to 7.
pub sixths_of :
    (left_of 1 ≡ 6) × (left_of 2 ≡ 5) × (left_of 3 ≡ 4) × (left_of 4 ≡ 3) × (left_of 5 ≡ 2) × (left_of 6 ≡ 1) × (left_of 7 ≡ 0)
sixths_of = (refl, refl, refl, refl, refl, refl, refl)
