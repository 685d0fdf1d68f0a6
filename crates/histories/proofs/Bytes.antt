-- Pixels of d bits by the bytes of their words, once over the depth d.
use Prim.Native.Nat.{ℕ, zero, suc, ◌+◌, ◌*◌, ◌-◌, ◌/◌, ◌%◌, ◌^◌, ◌<◌, ◌≤◌}
use mathlib.Core.List.{List, [], ◌∷◌, ◌++◌}
use mathlib.Core.Path.{◌≡◌, refl, sym, ◌∙◌, ap}
use native.Mathlib.Nat.{mod-lt, div-add-mod', mul-le-mul_right}
use native.Mathlib.Omega.{arith}
use lib.ListN.{length, get_or, length-append, get_or-append}
use Rattle.buffers.specs.Words.{word, words_of, bytes_of, byte_of, Below}
use Rattle.buffers.proofs.Words.{words_at, below_append}
use Rattle.registers.specs.declared.setting.Setting.{Setting}
use Rattle.registers.specs.inner.Accepted.{Depth}
use Rattle.registers.proofs.Words.{depth_least}
use Rattle.cells.specs.Pixel.{pixel, cursor_pair}
use Rattle.cells.proofs.PixelPlaces.{fills_byte, per_least, pixel_byte}
use Rattle.histories.specs.Live.{byte_used, pixel_read, cursor_position, words_read}

-- A pixel's bits lie in one byte.
pub pixel_at : (ws : List ℕ) (d i : ℕ) → Depth d → pixel ws d i ≡ byte_of ws (byte_used d i) / 2 ^ (i * d % 8) % 2 ^ d
pixel_at ws d i depth =
    let per = 8 / d in
    let q = i / per in
    let j = i % per in
    let room : j * d + d ≤ 8 = omega (arith, mul-le-mul_right d (mod-lt i (per_least depth)), fills_byte depth) in
    let bits : i * d ≡ q * 8 + j * d = ap (λ (n : ℕ). n * d) (sym (div-add-mod' i per)) ∙ omega (arith, ap (λ (n : ℕ). q * n) (fills_byte depth)) in
    let at : q ≡ i * d / 8 = omega (arith, depth_least depth) in
    let low : j * d ≡ i * d % 8 = omega (arith, depth_least depth) in
    pixel_byte ws d i depth ∙ ap (λ n. byte_of ws n / 2 ^ (j * d) % 2 ^ d) at ∙ ap (λ n. byte_of ws (i * d / 8) / 2 ^ n % 2 ^ d) low

-- Later positions use no earlier byte.
pub used_in_order : (d i j : ℕ) → i ≤ j → byte_used d i ≤ byte_used d j
used_in_order d i j h = omega (arith, mul-le-mul_right d h)

-- The cursor's pairs are pixels of two bits.
pub pair_pixel : (s : Setting) (cursor : List ℕ) (x y : ℕ) → x - s.cx.0 < 32
    → cursor_pair s cursor y (x - s.cx.0) ≡ pixel cursor 2 (cursor_position s x y)
unfolding cursor_pair pixel
pair_pixel s cursor x y h =
    let i = x - s.cx.0 in
    let r = y - s.vcs.0 in
    let at : (r * 32 + i) * 2 / 32 ≡ 2 * r + i / 16 = omega arith in
    let low : (r * 32 + i) * 2 % 32 ≡ 2 * (i % 16) = omega arith in
    rw (at, low)

pub below_bytes : (ws : List ℕ) → Below 256 (bytes_of ws)
unfolding bytes_of
below_bytes [] i = omega arith
below_bytes (w ∷ ws) zero = omega arith
below_bytes (w ∷ ws) (suc zero) = omega arith
below_bytes (w ∷ ws) (suc (suc zero)) = omega arith
below_bytes (w ∷ ws) (suc (suc (suc zero))) = omega arith
below_bytes (w ∷ ws) (suc (suc (suc (suc i)))) = below_bytes ws i

-- Each byte of the words of a list of bytes is that of the list.
module _ (a b c d : ℕ) (ha : a < 256) (hb : b < 256) (hc : c < 256) (hd : d < 256) where
  digit : (r : ℕ) → r < 4 → word a b c d / 2 ^ (8 * r) % 256 ≡ get_or (a ∷ b ∷ c ∷ d ∷ []) r 0
  digit zero h = omega arith
  digit (suc zero) h = omega arith
  digit (suc (suc zero)) h = omega arith
  digit (suc (suc (suc zero))) h = omega arith
  digit (suc (suc (suc (suc r)))) h = absurd (omega arith)

four_from : (l : List ℕ) (k r : ℕ) → r < 4 → get_or (get_or l k 0 ∷ get_or l (k + 1) 0 ∷ get_or l (k + 2) 0 ∷ get_or l (k + 3) 0 ∷ []) r 0 ≡ get_or l (k + r) 0
four_from l k zero h = ap (λ n. get_or l n 0) (let e : k ≡ k + 0 = omega arith in e)
four_from l k (suc zero) h = refl
four_from l k (suc (suc zero)) h = refl
four_from l k (suc (suc (suc zero))) h = refl
four_from l k (suc (suc (suc (suc r)))) h = absurd (omega arith)

byte_words : (l : List ℕ) (k : ℕ) → Below 256 l → 4 * (k / 4) + 4 ≤ length l → byte_of (words_of l) k ≡ get_or l k 0
byte_words l k b h =
    let q = 4 * (k / 4) in
    let at : q + k % 4 ≡ k = omega arith in
    let r : k % 4 < 4 = omega arith in
    ap (λ n. n / 2 ^ (8 * (k % 4)) % 256) (words_at l (k / 4) h)
    ∙ digit (get_or l q 0) (get_or l (q + 1) 0) (get_or l (q + 2) 0) (get_or l (q + 3) 0) (b q) (b (q + 1)) (b (q + 2)) (b (q + 3)) (k % 4) r
    ∙ four_from l q (k % 4) r
    ∙ ap (λ n. get_or l n 0) at

zeros_below : Below 256 (0 ∷ 0 ∷ 0 ∷ [])
zeros_below zero = omega arith
zeros_below (suc zero) = omega arith
zeros_below (suc (suc zero)) = omega arith
zeros_below (suc (suc (suc i))) = omega arith

-- A pixel of the words read so far is that of the byte it uses.
pub pixel_words_read : (bytes : List ℕ) (d i : ℕ) → Depth d → Below 256 bytes → byte_used d i < length bytes
    → pixel (words_read bytes) d i ≡ pixel_read bytes d i
pixel_words_read bytes d i depth b h =
    let zeros : List ℕ = 0 ∷ 0 ∷ 0 ∷ [] in
    let k = byte_used d i in
    pixel_at (words_read bytes) d i depth
    ∙ ap (λ n. n / 2 ^ (i * d % 8) % 2 ^ d)
    (byte_words (bytes ++ zeros) k (below_append 256 bytes zeros b zeros_below) (omega (arith, length-append bytes zeros))
    ∙ get_or-append bytes zeros 0 k h)
