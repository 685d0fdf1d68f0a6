-- One video word replaced: a pixel whose bits stand in another word is what it was, and so is each cell but those that the word holds;
-- and since each raster's words are its own, that word's raster is the only one that changes.
use Prim.Native.Nat.{ℕ, ◌+◌, ◌*◌, ◌-◌, ◌/◌, ◌<◌}
use mathlib.Core.Bool.{true, not}
use mathlib.Core.List.{List}
use mathlib.Core.Logic.{◌≢◌, inl, inr}
use mathlib.Core.Path.{◌≡◌, sym, ◌∙◌, ap}
use native.Mathlib.Omega.{arith}
use lib.Arith.{digits_div}
use lib.Dec.{eqb}
use lib.ListN.{set}
use lib.Seq.{get_or-set_other}
use Rattle.buffers.proofs.Tests.{and_split}
use Rattle.buffers.proofs.Split.{true_or_false}
use Rattle.registers.specs.Setting.{raster_words}
use Rattle.registers.specs.declared.record.Registers.{Registers}
use Rattle.registers.specs.declared.setting.Setting.{Setting}
use Rattle.registers.specs.inner.Accepted.{Accepted}
use Rattle.cells.specs.Pixel.{pixel, position, logical}
use Rattle.cells.specs.Cell.{plain_code, covered, code, cell}
use Rattle.cells.specs.inner.Region.{InDisplay}
use Rattle.cells.proofs.Regions.{display_inside, plain_five, code_five}
use Rattle.cells.proofs.RasterWords.{bits_at, bits_room}

-- Over any depth d: the bits of pixel k begin in word k·d/32.
pub pixel_replaced : (ws : List ℕ) (d i w k : ℕ) → k * d / 32 ≢ i → pixel (set ws i w) d k ≡ pixel ws d k
unfolding pixel
pixel_replaced ws d i w k h = rw (get_or-set_other ws i (k * d / 32) w 0 h)

-- The word that holds a display position.
abbrev pub word_at : Setting → ℕ → ℕ → ℕ
word_at s x y = position s x y * s.depth / 32

pub logical_replaced : (s : Setting) (video : List ℕ) (index w x y : ℕ) → word_at s x y ≢ index → logical s (set video index w) x y ≡ logical s video x y
logical_replaced s video index w x y h = pixel_replaced video s.depth index w (position s x y) h

module _ (s : Setting) (a : Accepted s) (x y : ℕ) where
  -- It belongs to the position's raster.
  pub word_raster : InDisplay s x y → word_at s x y / raster_words s ≡ y - s.vds.0
  word_raster i =
      let r = y - s.vds.0 in
      let p = x - s.ds.0 in
      let room : p * s.depth < raster_words s * 32 = bits_room s a (omega arith) in
      let at : word_at s x y ≡ r * raster_words s + p * s.depth / 32 = omega (arith, bits_at s a r p) in
      rw at (digits_div r (omega arith))

  -- A cell of code 5 lies in the display.
  five_inside : (cursor : List ℕ) → eqb (code s cursor x y) 5 ≡ true → InDisplay s x y
  five_inside cursor e =
      let h = and_split (not (covered s cursor x y)) (eqb (plain_code s x y) 5) (sym (code_five s x y cursor) ∙ e) in
      display_inside s x y (sym (plain_five s a x y) ∙ h.1)

  module _ (g : Registers) (video cursor : List ℕ) (index w : ℕ) where
    -- A cell of another word, or of none, is what it was;
    pub cell_replaced : (InDisplay s x y → word_at s x y ≢ index) → cell g s (set video index w) cursor x y ≡ cell g s video cursor x y
    unfolding cell
    cell_replaced h =
        elim (true_or_false (eqb (code s cursor x y) 5)) [
          | inl e ↦ rw (logical_replaced s video index w x y (h (five_inside cursor e)))
          | inr e ↦ rw e
        ]

    -- and so is one of another raster than the word's, or of none that is displayed.
    pub raster_replaced : (InDisplay s x y → index / raster_words s ≢ y - s.vds.0)
        → cell g s (set video index w) cursor x y ≡ cell g s video cursor x y
    raster_replaced h = cell_replaced (λ i e. h i (sym (ap (λ (k : ℕ). k / raster_words s) e) ∙ word_raster i))
