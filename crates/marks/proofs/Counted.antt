-- The mark count of an accepted setting, from the sum over its words and the sum over its cursor.
use Prim.Native.Nat.{ℕ, ◌+◌, ◌*◌, ◌-◌, ◌/◌}
use mathlib.Core.Bool.{Bool, true, false}
use mathlib.Core.List.{List}
use mathlib.Core.Path.{◌≡◌, refl, sym, ◌∙◌, ap}
use native.Mathlib.Nat.{mul_assoc}
use native.Mathlib.Omega.{arith}
use lib.ListN.{length}
use Rattle.buffers.specs.Pick.{pick}
use Rattle.registers.specs.Setting.{display_on, video_words}
use Rattle.registers.specs.declared.record.Registers.{Registers}
use Rattle.registers.specs.declared.setting.Setting.{Setting}
use Rattle.registers.specs.inner.Accepted.{Accepted}
use Rattle.registers.proofs.Accepted.{video_off}
use Rattle.registers.proofs.Words.{video_rasters}
use Rattle.cells.proofs.RasterWords.{four_bytes, whole_pixels}
use Rattle.marks.specs.Count.{total}
use Rattle.marks.specs.Marks.{marks_of}
use Rattle.marks.specs.inner.Bright.{Tabled, bright, byte_bright, pixel_bright, word_bright_at, covered_bright, cursor_raster, covered_all}
use Rattle.marks.proofs.Bytes.{words_total}
use Rattle.marks.proofs.Points.{mark_in, display_bright, point}
use Rattle.marks.proofs.Rows.{rows_total, marks_rows, rows_add, display_total, display_off, covered_total, covered_off}

module _ (s : Setting) (a : Accepted s) where
  -- The words hold the pixels of all displayed rasters.
  display_pixels : (m : ℕ) → display_on s ≡ true → m ≡ video_words s
      → (s.vde.0 - s.vds.0) * (s.de.0 - s.ds.0) ≡ m * (4 * (8 / s.depth))
  display_pixels m on e = rw (e, video_rasters s a on, mul_assoc, ← four_bytes a.depth, whole_pixels s a)

  module _ (g : Registers) (video cursor : List ℕ) (threshold : ℕ) (pixels : List ℕ) (t : Tabled pixels 256 (bright g s.depth threshold)) where
    -- Marks, and bright pixels that the cursor covers.
    marks_covered : marks_of g s video cursor threshold + rows_total s (covered_bright s video cursor pixels) ≡ rows_total s (display_bright s video pixels)
    marks_covered =
        ap (λ m. m + rows_total s (covered_bright s video cursor pixels)) (marks_rows g s video cursor threshold)
        ∙ rows_add s (mark_in g s video cursor threshold) (covered_bright s video cursor pixels) (display_bright s video pixels)
        (λ y x. point g s video cursor threshold x y pixels a t)

    module _ (bytes : List ℕ) (u : Tabled bytes 256 (byte_bright pixels s.depth)) (e : length video ≡ video_words s) where
      display_bright_holds : (on : Bool) → display_on s ≡ on → rows_total s (display_bright s video pixels) ≡ total (word_bright_at bytes video) (length video)
      unfolding total
      display_bright_holds true on =
          display_total s a video cursor pixels on
          ∙ ap (total (pixel_bright pixels video s.depth)) (display_pixels (length video) on e)
          ∙ words_total pixels bytes s.depth a.depth u video (length video)
      display_bright_holds false off = display_off s a video cursor pixels off ∙ sym (ap (total (word_bright_at bytes video)) (e ∙ video_off s off))

      cursor_bright_holds : (on : Bool) → s.cursor ≡ on
          → rows_total s (covered_bright s video cursor pixels) ≡ pick on (total (cursor_raster s video cursor pixels) (s.vce.0 - s.vcs.0)) 0
      cursor_bright_holds true on = covered_total s a video cursor pixels on
      cursor_bright_holds false off = covered_off s a video cursor pixels off

      pub counted : marks_of g s video cursor threshold + covered_all s video cursor pixels ≡ total (word_bright_at bytes video) (length video)
      unfolding covered_all
      counted = omega (arith, marks_covered, display_bright_holds (display_on s) refl, cursor_bright_holds s.cursor refl)
