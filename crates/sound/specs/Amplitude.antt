-- The benches' byte: its sign, point and chord, and what it stands for.
use Rattle.std.specs.Prelude.{ℕ, ◌+◌, ◌-◌, ◌*◌, ◌^◌, ℤ, pos, ◌*ℤ◌, neg_ℤ, ◌==◌}
use Rattle.buffers.specs.Bits.{bits}
use Rattle.buffers.specs.Pick.{pick}

-- Bit 0, 1 where the value is negative.
abbrev pub sign_of : ℕ → ℕ
sign_of byte = bits 0 0 byte

abbrev pub point_of : ℕ → ℕ
point_of byte = bits 4 1 byte

abbrev pub chord_of : ℕ → ℕ
chord_of byte = bits 7 5 byte

-- 2^c·(p+16)-16 for chord c and point p.
unfoldable pub amplitude_of : ℕ → ℕ
amplitude_of byte = 2 ^ chord_of byte * (point_of byte + 16) - 16

-- Negated by the sign bit.
unfoldable pub signed_of : ℕ → ℤ
signed_of byte = pick (sign_of byte == 1) (neg_ℤ (pos (amplitude_of byte))) (pos (amplitude_of byte))

-- Times sixths.
unfoldable pub value_of : ℕ → ℕ → ℤ
value_of byte sixths = signed_of byte *ℤ pos sixths
