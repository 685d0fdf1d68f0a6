-- The low d bits of a number, by a mask; and the pixels of a byte, taken from its low end.
use Prim.Native.Nat.{ℕ, ◌+◌, ◌*◌, ◌-◌, ◌/◌, ◌%◌, ◌^◌, ◌<◌, ◌≤◌}
use mathlib.Core.List.{List}
use mathlib.Core.Path.{◌≡◌, ◌∙◌, ap}
use native.Mathlib.Nat.{add-mul, div-one, one-mul, zero-mul, mod-lt, div-le_self}
use native.Mathlib.Omega.{arith}
use lib.Bits.{bit_and, and_mask}
use lib.ListN.{get_or}
use lib.Pow.{pow_pos, pow_mono, shl_exact, shr-shr}
use Rattle.registers.specs.inner.Accepted.{Depth}
use Rattle.registers.proofs.Words.{depth_most}
use Rattle.marks.specs.Count.{total}
use Rattle.marks.specs.inner.Bright.{Tabled, AtMost, field_bright, byte_bright}
use Rattle.marks.proofs.Totals.{total_more, total_most}
use Rattle.marks.proofs.Tabled.{tabled_most}

one_shifted : (d : ℕ) → Depth d → 1 * 2 ^ d % 2 ^ 32 ≡ 2 ^ d
one_shifted d h = shl_exact {a = 1} 1 d 32 (omega arith) (omega (arith, depth_most h)) ∙ one-mul (2 ^ d)

pub mask_least : (d : ℕ) → Depth d → 1 ≤ 1 * 2 ^ d % 2 ^ 32
mask_least d h = rw (one_shifted d h) (pow_pos d)

pub low_bits : (x d : ℕ) → Depth d → bit_and x (1 * 2 ^ d % 2 ^ 32 - 1) ≡ x % 2 ^ d
low_bits x d h = ap (λ m. bit_and x (m - 1)) (one_shifted d h) ∙ and_mask x d

pub bits_below : (x d : ℕ) → Depth d → x % 2 ^ d < 256
bits_below x d h = omega (arith, mod-lt x (pow_pos d), pow_mono {j = 8} (depth_most h))

-- What is left of a byte before pixel j: all of it before the first, and without d bits more before the next.
pub byte_start : (byte d : ℕ) → byte ≡ byte / 2 ^ (0 * d)
byte_start byte d = rw (zero-mul d, div-one byte)

pub byte_rest : (d byte rest j : ℕ) → rest ≡ byte / 2 ^ (j * d) → rest / 2 ^ d ≡ byte / 2 ^ ((j + 1) * d)
byte_rest d byte rest j e =
    let next : (j + 1) * d ≡ j * d + d = add-mul j 1 d ∙ ap (λ m. j * d + m) (one-mul d) in
    rw (e, shr-shr byte (j * d) d, next)

module _ (pixels : List ℕ) (d byte : ℕ) where
  -- A byte's sum, one pixel further.
  pub byte_more : (rest sum low j : ℕ) → rest ≡ byte / 2 ^ (j * d) → sum ≡ total (field_bright pixels d byte) j → low ≡ rest % 2 ^ d
      → sum + get_or pixels low 0 ≡ total (field_bright pixels d byte) (j + 1)
  byte_more rest sum low j e f h = rw (total_more, h, e, f)

  pub byte_most : (j : ℕ) → AtMost pixels 1 → total (field_bright pixels d byte) j ≤ j
  byte_most j m = omega (arith, total_most (field_bright pixels d byte) 1 j (λ k l. m.most (byte / 2 ^ (k * d) % 2 ^ d)))

-- A byte has at most eight pixels.
pub bytes_most : (pixels : List ℕ) (d : ℕ) {bytes : List ℕ} → AtMost pixels 1 → Tabled bytes 256 (byte_bright pixels d) → AtMost bytes 255
unfolding byte_bright
bytes_most pixels d m t = tabled_most t (λ byte. omega (arith, byte_most pixels d byte (8 / d) m, div-le_self 8 d))
