-- Where a logical pixel stands in the words and in their bytes, and that a part of the words holds the same pixels. Over any depth d.
use Prim.Native.Nat.{ℕ, ◌+◌, ◌*◌, ◌-◌, ◌/◌, ◌%◌, ◌^◌, ◌<◌, ◌≤◌}
use mathlib.Core.List.{List}
use mathlib.Core.Logic.{⊎_elim, inl, inr}
use mathlib.Core.Path.{◌≡◌, sym, ap, ◌∙◌}
use native.Mathlib.Nat.{mod-lt, div-add-mod', mul-zero, mul-le-mul_right, mul-add-div_right, mul-add-mod_self_right}
use native.Mathlib.Omega.{arith}
use lib.ListN.{get_or, take, drop}
use lib.Pow.{pow_pos, field, mod-mod-pow, shr-shr}
use lib.Seq.{get_or-take, get_or-drop}
use Rattle.buffers.specs.Words.{byte_of}
use Rattle.buffers.proofs.Split.{lt_or_le}
use Rattle.registers.specs.inner.Accepted.{Depth}
use Rattle.registers.proofs.Words.{depth_least}
use Rattle.cells.specs.Pixel.{pixel}

-- 8/d pixels of d bits fill a byte.
pub fills_byte : {d : ℕ} → Depth d → 8 / d * d ≡ 8
fills_byte h = ⊎_elim (λ e. rw e) (⊎_elim (λ e. rw e) (⊎_elim (λ e. rw e) (λ e. rw e))) h

pub per_least : {d : ℕ} → Depth d → 0 < 8 / d
per_least h = ⊎_elim (λ e. rw e (omega arith)) (⊎_elim (λ e. rw e (omega arith)) (⊎_elim (λ e. rw e (omega arith)) (λ e. rw e (omega arith)))) h

pub per_most : {d : ℕ} → Depth d → 8 / d ≤ 8
per_most h = ⊎_elim (λ e. rw e (omega arith)) (⊎_elim (λ e. rw e (omega arith)) (⊎_elim (λ e. rw e (omega arith)) (λ e. rw e (omega arith)))) h

-- Pixel n, which is pixel x past b bytes of per pixels each.
module _ (n per b x : ℕ) (e : n ≡ b * per + x) where
  pub past_bytes : 0 < per → n / per ≡ b + x / per
  past_bytes some = ap (λ (k : ℕ). k / per) e ∙ mul-add-div_right some b x

  pub past_pixels : n % per ≡ x % per
  past_pixels = ap (λ (k : ℕ). k % per) e ∙ mul-add-mod_self_right b per x

-- The pixels of x that lie in its low byte.
pub low_field : (x k d : ℕ) → k + d ≤ 8 → x % 256 / 2 ^ k % 2 ^ d ≡ x / 2 ^ k % 2 ^ d
low_field x k d h =
    let bits : 8 ≡ 8 - k - d + d + k = omega arith in
    let byte : x % 256 ≡ x % 2 ^ (8 - k - d + d + k) = ap (λ n. x % 2 ^ n) bits in
    rw (byte, field x (8 - k - d + d) k, mod-mod-pow (x / 2 ^ k) (8 - k - d) d)

pub pixel_below : (ws : List ℕ) (d i : ℕ) → pixel ws d i < 2 ^ d
unfolding pixel
pixel_below ws d i = mod-lt _ (pow_pos d)

-- A pixel whose bits start at bit e of word q.
pub pixel_in : (ws : List ℕ) (d i q e : ℕ) → i * d ≡ q * 32 + e → e < 32 → pixel ws d i ≡ get_or ws q 0 / 2 ^ e % 2 ^ d
unfolding pixel
pixel_in ws d i q e h l =
    let at : i * d / 32 ≡ q = omega arith in
    let low : i * d % 32 ≡ e = omega arith in
    rw (at, low)

-- Pixel j of the m words from the start on, which is pixel i of all.
pub pixel_part : (ws : List ℕ) (d i j start m : ℕ) → i * d ≡ start * 32 + j * d → j * d < m * 32
    → pixel (take m (drop start ws)) d j ≡ pixel ws d i
unfolding pixel
pixel_part ws d i j start m h l =
    let at : i * d / 32 ≡ start + j * d / 32 = omega arith in
    let low : i * d % 32 ≡ j * d % 32 = omega arith in
    let here : j * d / 32 < m = omega arith in
    rw (at, low, get_or-take m (drop start ws) (j * d / 32) 0 here, get_or-drop)

-- Pixel i is pixel i mod per of byte i div per, where a byte has per, 8/d, pixels.
pub pixel_byte : (ws : List ℕ) (d i : ℕ) → Depth d → pixel ws d i ≡ byte_of ws (i / (8 / d)) / 2 ^ (i % (8 / d) * d) % 2 ^ d
pixel_byte ws d i depth =
    let per = 8 / d in
    let q = i / per in
    let j = i % per in
    let room : j * d + d ≤ 8 = omega (arith, mul-le-mul_right d (mod-lt i (per_least depth)), fills_byte depth) in
    let bits : i * d ≡ q * 8 + j * d = ap (λ (n : ℕ). n * d) (sym (div-add-mod' i per)) ∙ omega (arith, ap (λ (n : ℕ). q * n) (fills_byte depth)) in
    pixel_in ws d i (q / 4) (8 * (q % 4) + j * d) (omega arith) (omega (arith, depth_least depth))
    ∙ ap (λ (n : ℕ). n % 2 ^ d) (sym (shr-shr (get_or ws (q / 4) 0) (8 * (q % 4)) (j * d)))
    ∙ sym (low_field (get_or ws (q / 4) 0 / 2 ^ (8 * (q % 4))) (j * d) d room)

-- Byte k of the m words from the start on.
pub byte_part : (ws : List ℕ) (start m k : ℕ) → k < m * 4 → byte_of (take m (drop start ws)) k ≡ byte_of ws (start * 4 + k)
byte_part ws start m k h =
    let at : (start * 4 + k) / 4 ≡ start + k / 4 = omega arith in
    let low : (start * 4 + k) % 4 ≡ k % 4 = omega arith in
    let here : k / 4 < m = omega arith in
    rw (at, low, get_or-take m (drop start ws) (k / 4) 0 here, get_or-drop)

fill_positive : (n d : ℕ) → n * d ≡ 32 → 0 < d
fill_positive n d e =
    elim (lt_or_le 0 d) [
      | inl h ↦ h
      | inr h ↦
          let z : d ≡ 0 = omega arith in
          let y : n * d ≡ 0 = rw z (mul-zero n) in
          omega arith
    ]

-- Pixel x of word q, where n pixels of d bits fill a word.
pub pixel_field : (ws : List ℕ) (d n q x : ℕ) → n * d ≡ 32 → x < n → pixel ws d (q * n + x) ≡ get_or ws q 0 / 2 ^ (x * d) % 2 ^ d
pixel_field ws d n q x e h =
    pixel_in ws d (q * n + x) q (x * d) (omega (arith, ap (λ (k : ℕ). q * k) e)) (omega (arith, mul-le-mul_right d h, fill_positive n d e))
