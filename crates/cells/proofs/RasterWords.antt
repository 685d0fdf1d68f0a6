-- The words of one displayed raster: they lie in the frame's list, hold DE-DS pixels, and their pixel p is the frame's logical pixel
-- at display position p of that raster. Once for every depth.
use Prim.Native.Nat.{ℕ, ◌+◌, ◌*◌, ◌-◌, ◌/◌, ◌<◌, ◌≤◌}
use mathlib.Core.List.{List}
use mathlib.Core.Logic.{inl, inr}
use mathlib.Core.Path.{◌≡◌, sym, ◌∙◌, ap}
use native.Mathlib.Nat.{add-mul, mul_assoc, mul-le-mul, mul-le-mul_right, eq_of_mul-eq-mul_right, add-sub_cancel_left, mul-lt-mul_of_pos_right}
use native.Mathlib.Omega.{arith}
use borrow.Author.Tests.{lt-ltb}
use lib.ListN.{take, drop}
use Rattle.registers.specs.Setting.{raster_words, video_words}
use Rattle.registers.specs.declared.setting.Setting.{Setting}
use Rattle.registers.specs.inner.Accepted.{Depth, Accepted}
use Rattle.registers.proofs.Words.{depth_least, depth_most, raster_bits, raster_most, video_rasters}
use Rattle.cells.specs.Pixel.{pixel, logical, first_word}
use Rattle.cells.proofs.PixelPlaces.{pixel_part}

-- 32/d pixels of d bits fill a word.
pub fills_word : {d : ℕ} → Depth d → 32 / d * d ≡ 32
fills_word (inl e) = rw e
fills_word (inr (inl e)) = rw e
fills_word (inr (inr (inl e))) = rw e
fills_word (inr (inr (inr e))) = rw e

pub four_bytes : {d : ℕ} → Depth d → 32 / d ≡ 4 * (8 / d)
four_bytes (inl e) = rw e
four_bytes (inr (inl e)) = rw e
four_bytes (inr (inr (inl e))) = rw e
four_bytes (inr (inr (inr e))) = rw e

module _ (s : Setting) (a : Accepted s) where
  -- The pixels of a raster's words.
  pub whole_pixels : raster_words s * (32 / s.depth) ≡ s.de.0 - s.ds.0
  whole_pixels =
      eq_of_mul-eq-mul_right s.depth (depth_least a.depth) _ _
      (mul_assoc (raster_words s) (32 / s.depth) s.depth ∙ ap (λ (k : ℕ). raster_words s * k) (fills_word a.depth) ∙ raster_bits s a)

  pub bits_most : (s.de.0 - s.ds.0) * s.depth ≤ 2048 * 8
  bits_most = mul-le-mul {n₂ = 2048} {m₂ = 8} (omega (arith, a.de_be, a.be_n, a.n_most)) (depth_most a.depth)

  -- The bits of display position p of raster r: past those of r rasters' words, and within one raster's.
  pub bits_at : (r p : ℕ) → (r * (s.de.0 - s.ds.0) + p) * s.depth ≡ r * raster_words s * 32 + p * s.depth
  bits_at r p =
      let w = s.de.0 - s.ds.0 in
      rw (add-mul (r * w) p s.depth, mul_assoc r w s.depth, mul_assoc r (raster_words s) 32, raster_bits s a)

  pub bits_room : {p : ℕ} → p < s.de.0 - s.ds.0 → p * s.depth < raster_words s * 32
  bits_room l = rw (raster_bits s a) (mul-lt-mul_of_pos_right l (depth_least a.depth))

  module _ (y : ℕ) where
    -- The raster's words are few, and lie in the list.
    pub first_most : y < 65536 → (y - s.vds.0) * raster_words s ≤ 65536 * 512
    first_most h = mul-le-mul {n₂ = 65536} {m₂ = 512} (omega arith) (raster_most s a)

    pub raster_room : s.vds.0 ≤ y → y < s.vde.0 → first_word s y + raster_words s ≤ video_words s
    unfolding first_word
    raster_room p q =
        let h : y - s.vds.0 + 1 ≤ s.vde.0 - s.vds.0 = omega arith in
        omega (arith, mul-le-mul_right (raster_words s) h, video_rasters s a (lt-ltb s.vds.0 s.vde.0 (omega arith)))

    pub raster_pixel : (video : List ℕ) (p : ℕ) → p < s.de.0 - s.ds.0
        → pixel (take (raster_words s) (drop (first_word s y) video)) s.depth p ≡ logical s video (s.ds.0 + p) y
    unfolding first_word
    raster_pixel video p l =
        let w = s.de.0 - s.ds.0 in
        let r = y - s.vds.0 in
        pixel_part video s.depth (r * w + p) p (r * raster_words s) (raster_words s) (bits_at r p) (bits_room l)
        ∙ ap (λ i. pixel video s.depth (r * w + i)) (sym (add-sub_cancel_left s.ds.0 p))
