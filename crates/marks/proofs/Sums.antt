-- The counts of the displayed rasters sum to the frame's mark count: no other raster has a code 5 cell.
use Prim.Native.Nat.{ℕ, ◌+◌, ◌*◌, ◌/◌, ◌%◌}
use mathlib.Core.Bool.{not, and-false}
use mathlib.Core.List.{List}
use mathlib.Core.Path.{◌≡◌, sym, ◌∙◌}
use native.Mathlib.Omega.{arith}
use Rattle.buffers.proofs.Split.{is_false}
use Rattle.registers.specs.declared.record.Registers.{Registers}
use Rattle.registers.specs.declared.setting.Setting.{Setting}
use Rattle.registers.specs.inner.Accepted.{Accepted}
use Rattle.cells.specs.Cell.{in_display, covered}
use Rattle.cells.specs.inner.Region.{InDisplay}
use Rattle.cells.proofs.Regions.{display_inside, display_on_holds, plain_five, code_five}
use Rattle.marks.specs.Count.{total}
use Rattle.marks.specs.Marks.{marks_of}
use Rattle.marks.specs.Summaries.{raster_marks, entry_of, displayed_rasters, entry_number}
use Rattle.marks.proofs.Totals.{total_as, total_none, total_window}
use Rattle.marks.proofs.Points.{mark_in, mark_other}
use Rattle.marks.proofs.Rows.{marks_rows}

-- The first number of an entry is its raster's count.
pub number_count : (g : Registers) (s : Setting) (video cursor : List ℕ) (threshold r : ℕ)
    → entry_number g s video cursor threshold (3 * r) ≡ raster_marks g s video cursor threshold (s.vds.0 + r)
unfolding entry_number entry_of
number_count g s video cursor threshold r =
    let at : 3 * r / 3 ≡ r = omega arith in
    let first : 3 * r % 3 ≡ 0 = omega arith in
    rw (at, first)

module _ (g : Registers) (s : Setting) (a : Accepted s) (video cursor : List ℕ) (threshold : ℕ) where
  mark_none : (y x : ℕ) → (InDisplay s x y → ⊥) → mark_in g s video cursor threshold y x ≡ 0
  mark_none y x h =
      let out : in_display s x y ≡ _ = is_false (in_display s x y) (λ e. h (display_inside s x y e)) in
      rw (mark_other g s video cursor threshold x y
      (code_five s x y cursor ∙ rw (plain_five s a x y, out) (and-false (not (covered s cursor x y)))))

  raster_none : (y : ℕ) → ((x : ℕ) → InDisplay s x y → ⊥) → raster_marks g s video cursor threshold y ≡ 0
  unfolding raster_marks
  raster_none y h = total_none (mark_in g s video cursor threshold y) s.n.0 (λ x l. mark_none y x (h x))

  pub rasters_sum : total (λ r. raster_marks g s video cursor threshold (s.vds.0 + r)) (displayed_rasters s) ≡ marks_of g s video cursor threshold
  unfolding raster_marks
  rasters_sum =
      sym (marks_rows g s video cursor threshold
      ∙ total_window (raster_marks g s video cursor threshold) s.vds.0 (displayed_rasters s) s.v.0
      (record { low = λ y l. raster_none y (λ x d. omega arith); high = λ y l. raster_none y (λ x d. omega arith) })
      (λ y l. raster_none y (λ x d. omega (arith, a.display (display_on_holds s x y d)))))

  pub numbers_sum : total (λ r. entry_number g s video cursor threshold (3 * r)) (displayed_rasters s) ≡ marks_of g s video cursor threshold
  numbers_sum =
      total_as (λ r. entry_number g s video cursor threshold (3 * r)) (λ r. raster_marks g s video cursor threshold (s.vds.0 + r)) (displayed_rasters s)
      (λ r l. number_count g s video cursor threshold r)
      ∙ rasters_sum
