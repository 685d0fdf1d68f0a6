-- Bright pixels counted by whole bytes: a word's four bytes hold its pixels in order. Once for every depth d.
use Prim.Native.Nat.{ℕ, ◌+◌, ◌*◌, ◌/◌, ◌%◌, ◌^◌, ◌<◌, ◌≤◌}
use mathlib.Core.List.{List}
use mathlib.Core.Path.{◌≡◌, sym, ◌∙◌, ap}
use native.Mathlib.Nat.{add-mul, mul_assoc, mod-lt, div-one, mul-le-mul_right}
use native.Mathlib.Omega.{arith}
use lib.ListN.{get_or}
use lib.Pow.{shr-shr}
use Rattle.registers.specs.inner.Accepted.{Depth}
use Rattle.registers.proofs.Words.{depth_least}
use Rattle.cells.proofs.PixelPlaces.{fills_byte, low_field, pixel_in}
use Rattle.marks.specs.Count.{total}
use Rattle.marks.specs.inner.Bright.{Tabled, field, field_bright, byte_bright, pixel_bright, word_bright, word_bright_at}
use Rattle.marks.proofs.Totals.{total_as, total_rows}

-- Pixel j of a word's byte b.
byte_field : (w d b j : ℕ) → Depth d → j < 8 / d → field w d (b * (8 / d) + j) ≡ field (w / 2 ^ (b * 8) % 256) d j
byte_field w d b j h l =
    let eight : 8 / d * d ≡ 8 = fills_byte h in
    let bits : (b * (8 / d) + j) * d ≡ b * 8 + j * d = rw (add-mul, mul_assoc, eight) in
    let room : j * d + d ≤ 8 = omega (arith, mul-le-mul_right d l, add-mul j 1 d) in
    rw (bits, ← shr-shr w (b * 8) (j * d), low_field (w / 2 ^ (b * 8)) (j * d) d room)

module _ (pixels bytes : List ℕ) (d : ℕ) (h : Depth d) (t : Tabled bytes 256 (byte_bright pixels d)) where
  -- What a table of bytes has for byte b of a word.
  byte_of : ℕ → ℕ → ℕ
  byte_of w b = get_or bytes (w / 2 ^ (b * 8) % 256) 0

  byte_total : (w b : ℕ) → total (λ j. field_bright pixels d w (b * (8 / d) + j)) (8 / d) ≡ byte_of w b
  unfolding byte_of byte_bright
  byte_total w b =
      total_as (λ j. field_bright pixels d w (b * (8 / d) + j)) (field_bright pixels d (w / 2 ^ (b * 8) % 256)) (8 / d)
      (λ j l. ap (λ p. get_or pixels p 0) (byte_field w d b j h l))
      ∙ sym (t.on (w / 2 ^ (b * 8) % 256) (mod-lt _ (omega arith)))

  word_four : (w : ℕ) → total (byte_of w) 4 ≡ word_bright bytes w
  unfolding byte_of total
  word_four w = rw div-one (omega arith)

  word_total : (w : ℕ) → total (field_bright pixels d w) (4 * (8 / d)) ≡ word_bright bytes w
  word_total w =
      total_rows (field_bright pixels d w) 4 (8 / d)
      ∙ total_as (λ b. total (λ j. field_bright pixels d w (b * (8 / d) + j)) (8 / d)) (byte_of w) 4 (λ b l. byte_total w b)
      ∙ word_four w

  word_pixel : (ws : List ℕ) (q j : ℕ) → j < 4 * (8 / d) → pixel_bright pixels ws d (q * (4 * (8 / d)) + j) ≡ field_bright pixels d (get_or ws q 0) j
  word_pixel ws q j l =
      let all : 4 * (8 / d) * d ≡ 32 = omega (arith, mul_assoc 4 (8 / d) d, fills_byte h) in
      let bits : (q * (4 * (8 / d)) + j) * d ≡ q * 32 + j * d = rw (add-mul, mul_assoc, all) in
      let room : j * d < 32 = omega (arith, mul-le-mul_right d l, add-mul j 1 d, depth_least h) in
      ap (λ p. get_or pixels p 0) (pixel_in ws d (q * (4 * (8 / d)) + j) q (j * d) bits room)

  -- The bright pixels of m words.
  pub words_total : (ws : List ℕ) (m : ℕ) → total (pixel_bright pixels ws d) (m * (4 * (8 / d))) ≡ total (word_bright_at bytes ws) m
  words_total ws m =
      total_rows (pixel_bright pixels ws d) m (4 * (8 / d))
      ∙ total_as (λ q. total (λ j. pixel_bright pixels ws d (q * (4 * (8 / d)) + j)) (4 * (8 / d))) (word_bright_at bytes ws) m
      (λ q l. total_as (λ j. pixel_bright pixels ws d (q * (4 * (8 / d)) + j)) (field_bright pixels d (get_or ws q 0)) (4 * (8 / d)) (word_pixel ws q)
      ∙ word_total (get_or ws q 0))
