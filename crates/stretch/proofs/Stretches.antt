-- Where a stretch lies: within the words, one raster's after another's, since a raster's words lie in the frame's.
use Prim.Native.Nat.{ℕ, ◌+◌, ◌-◌, ◌<◌, ◌≤◌}
use mathlib.Core.Bool.{Bool, true, false}
use mathlib.Core.List.{List}
use mathlib.Core.Path.{◌≡◌, refl}
use native.Mathlib.Omega.{arith}
use borrow.Author.Tests.{lt-ltb}
use lib.ListN.{take, drop}
use Rattle.buffers.proofs.Tests.{and_split, and_join}
use Rattle.buffers.proofs.Split.{is_false}
use Rattle.registers.specs.Setting.{display_on, raster_words, video_words}
use Rattle.registers.specs.declared.setting.Setting.{Setting}
use Rattle.registers.specs.inner.Accepted.{Accepted}
use Rattle.cells.specs.Cell.{within}
use Rattle.cells.specs.Pixel.{pixel, logical, first_word}
use Rattle.cells.proofs.Regions.{within_true, true_within}
use Rattle.cells.proofs.RasterWords.{raster_room, raster_pixel}
use Rattle.stretch.specs.Stretch.{is_displayed, none, stretch_of}

module _ (s : Setting) (y : ℕ) where
  pub in_rasters : is_displayed s y ≡ true → (s.vds.0 ≤ y) × (y < s.vde.0)
  in_rasters e = within_true s.vds.0 s.vde.0 y (and_split (display_on s) (within s.vds.0 s.vde.0 y) e).1

  pub is_displayed_holds : s.vds.0 ≤ y → y < s.vde.0 → is_displayed s y ≡ true
  is_displayed_holds l m = and_join (lt-ltb s.vds.0 s.vde.0 (omega arith)) (true_within s.vds.0 s.vde.0 y l m)

  pub stretch_none : ((s.vds.0 ≤ y) × (y < s.vde.0) → ⊥) → none ≡ stretch_of s y
  unfolding stretch_of
  stretch_none h = rw (is_false (is_displayed s y) (λ e. h (in_rasters e)))

  pub stretch_at : s.vds.0 ≤ y → y < s.vde.0
      → stretch_of s y ≡ record { start = first_word s y; count = raster_words s }
  unfolding stretch_of
  stretch_at l m = rw (is_displayed_holds l m)

  -- Its pixel p is the frame's logical pixel at display position p of that raster.
  pub stretch_pixel : Accepted s → s.vds.0 ≤ y → y < s.vde.0 → (video : List ℕ) (p : ℕ) → p < s.de.0 - s.ds.0
      → pixel (take (stretch_of s y).count (drop (stretch_of s y).start video)) s.depth p ≡ logical s video (s.ds.0 + p) y
  stretch_pixel a l m video p h = rw (stretch_at l m) (raster_pixel s a y video p h)

  module _ (a : Accepted s) where
    -- The raster's words are there.
    room_by : (shown : Bool) → is_displayed s y ≡ shown → (stretch_of s y).start + (stretch_of s y).count ≤ video_words s
    unfolding stretch_of
    room_by true e = let h = in_rasters e in rw e (raster_room s a y h.0 h.1)
    room_by false e = rw e (omega arith)

    pub stretch_room : (stretch_of s y).start + (stretch_of s y).count ≤ video_words s
    stretch_room = room_by (is_displayed s y) refl
