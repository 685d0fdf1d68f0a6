-- Over the frame: marks and covered bright pixels together are the bright pixels of the display.
use Prim.Native.Nat.{ℕ, ◌+◌, ◌*◌, ◌-◌, ◌<◌}
use mathlib.Core.Bool.{true, false, ◌&&◌}
use mathlib.Core.List.{List}
use mathlib.Core.Path.{◌≡◌, sym, ◌∙◌, ap}
use native.Mathlib.Nat.{mul_comm, add-sub_cancel_left}
use native.Mathlib.Omega.{arith}
use lib.Arith.{digits_div, digits_mod}
use lib.Dec.{eqb}
use Rattle.buffers.proofs.Tests.{no, and_split}
use Rattle.buffers.proofs.Split.{is_false}
use Rattle.registers.specs.Setting.{display_on}
use Rattle.registers.specs.declared.record.Registers.{Registers}
use Rattle.registers.specs.declared.setting.Setting.{Setting}
use Rattle.registers.specs.inner.Accepted.{Accepted}
use Rattle.cells.specs.Cell.{in_display, plain_code, covered}
use Rattle.frame.specs.Frame.{frame_cell}
use Rattle.cells.specs.inner.Region.{InDisplay, Reached}
use Rattle.cells.proofs.Regions.{display_inside, inside_display, display_on_holds, covered_reached, plain_five}
use Rattle.marks.specs.Count.{total, bit}
use Rattle.marks.specs.Marks.{mark_at, marks_of}
use Rattle.marks.specs.inner.Bright.{pixel_bright, covered_bright, cursor_bright, raster_bright, cursor_raster}
use Rattle.marks.proofs.Totals.{total_as, total_none, total_add, total_rows, total_window}
use Rattle.marks.proofs.Points.{mark_in, display_bright}

-- A raster's sum, and the sum of all rasters.
abbrev pub rows_total : Setting → (ℕ → ℕ → ℕ) → ℕ
rows_total s f = total (λ y. total (f y) s.n.0) s.v.0

pub marks_rows : (g : Registers) (s : Setting) (video cursor : List ℕ) (threshold : ℕ)
    → marks_of g s video cursor threshold ≡ rows_total s (mark_in g s video cursor threshold)
unfolding marks_of frame_cell
marks_rows g s video cursor threshold =
    let f : ℕ → ℕ = λ k. bit (mark_at g s video cursor threshold k) in
    let n = s.n.0 in
    ap (total f) (mul_comm n s.v.0)
    ∙ total_rows f s.v.0 n
    ∙ total_as (λ y. total (λ x. f (y * n + x)) n) (λ y. total (mark_in g s video cursor threshold y) n) s.v.0
    (λ y l. total_as (λ x. f (y * n + x)) (mark_in g s video cursor threshold y) n (λ x m. rw (digits_mod y m, digits_div y m)))

pub rows_add : (s : Setting) (f h e : ℕ → ℕ → ℕ) → ((y x : ℕ) → f y x + h y x ≡ e y x) → rows_total s f + rows_total s h ≡ rows_total s e
rows_add s f h e p =
    let n = s.n.0 in
    sym (total_add (λ y. total (f y) n) (λ y. total (h y) n) s.v.0)
    ∙ total_as (λ y. total (f y) n + total (h y) n) (λ y. total (e y) n) s.v.0
    (λ y l. sym (total_add (f y) (h y) n) ∙ total_as (λ x. f y x + h y x) (e y) n (λ x m. p y x))

module _ (s : Setting) (a : Accepted s) (video cursor pixels : List ℕ) where
  display_none : (y x : ℕ) → (InDisplay s x y → ⊥) → display_bright s video pixels y x ≡ 0
  display_none y x h = rw (is_false (in_display s x y) (λ e. h (display_inside s x y e)))

  display_row_none : (y : ℕ) → ((x : ℕ) → InDisplay s x y → ⊥) → total (display_bright s video pixels y) s.n.0 ≡ 0
  display_row_none y h = total_none (display_bright s video pixels y) s.n.0 (λ x l. display_none y x (h x))

  covered_none : (y x : ℕ) → (InDisplay s x y → Reached s x y → ⊥) → covered_bright s video cursor pixels y x ≡ 0
  covered_none y x h =
      rw (is_false (eqb (plain_code s x y) 5 && covered s cursor x y)
      (λ e. let p = and_split (eqb (plain_code s x y) 5) (covered s cursor x y) e in
      h (display_inside s x y (sym (plain_five s a x y) ∙ p.0)) (covered_reached s a x y cursor p.1)))

  covered_row_none : (y : ℕ) → ((x : ℕ) → InDisplay s x y → Reached s x y → ⊥) → total (covered_bright s video cursor pixels y) s.n.0 ≡ 0
  covered_row_none y h = total_none (covered_bright s video cursor pixels y) s.n.0 (λ x l. covered_none y x (h x))

  -- A displayed raster's bright pixels are the next DE-DS pixels of the words.
  row_display : (r : ℕ) → r < s.vde.0 - s.vds.0
      → total (display_bright s video pixels (s.vds.0 + r)) s.n.0
      ≡ total (λ p. pixel_bright pixels video s.depth (r * (s.de.0 - s.ds.0) + p)) (s.de.0 - s.ds.0)
  row_display r l =
      let y = s.vds.0 + r in
      let w = s.de.0 - s.ds.0 in
      total_window (display_bright s video pixels y) s.ds.0 (s.de.0 - s.ds.0) s.n.0
      (record { low = λ x m. display_none y x (λ d. omega arith); high = λ x m. display_none y x (λ d. omega (arith, a.ds_de)) })
      (λ x m. display_none y x (λ d. omega (arith, a.de_be, a.be_n)))
      ∙ total_as (λ p. display_bright s video pixels y (s.ds.0 + p)) (λ p. pixel_bright pixels video s.depth (r * w + p)) w
      (λ p m. let here : InDisplay s (s.ds.0 + p) y = record { left = omega arith; right = omega arith; above = omega arith; below = omega arith } in
      rw (inside_display s (s.ds.0 + p) y here, add-sub_cancel_left s.vds.0 r, add-sub_cancel_left s.ds.0 p))

  pub display_total : display_on s ≡ true
      → rows_total s (display_bright s video pixels)
      ≡ total (pixel_bright pixels video s.depth) ((s.vde.0 - s.vds.0) * (s.de.0 - s.ds.0))
  display_total on =
      let v = a.display on in
      let row : ℕ → ℕ = λ y. total (display_bright s video pixels y) s.n.0 in
      let w = s.de.0 - s.ds.0 in
      let h = s.vde.0 - s.vds.0 in
      total_window row s.vds.0 h s.v.0
      (record { low = λ y l. display_row_none y (λ x d. omega arith); high = λ y l. display_row_none y (λ x d. omega arith) })
      (λ y l. display_row_none y (λ x d. omega arith))
      ∙ total_as (λ r. row (s.vds.0 + r)) (λ r. total (λ p. pixel_bright pixels video s.depth (r * w + p)) w) h row_display
      ∙ sym (total_rows (pixel_bright pixels video s.depth) h w)

  pub display_off : display_on s ≡ false → rows_total s (display_bright s video pixels) ≡ 0
  display_off off =
      total_none (λ y. total (display_bright s video pixels y) s.n.0) s.v.0
      (λ y l. display_row_none y (λ x d. no (sym off ∙ display_on_holds s x y d)))

  -- A raster's covered bright pixels are among the cursor's 32.
  row_covered : (y : ℕ) → total (covered_bright s video cursor pixels y) s.n.0 ≡ raster_bright s video cursor pixels y
  unfolding raster_bright cursor_bright
  row_covered y =
      total_window (covered_bright s video cursor pixels y) s.cx.0 32 s.n.0
      (record { low = λ x m. covered_none y x (λ d c. omega arith); high = λ x m. covered_none y x (λ d c. omega arith) })
      (λ x m. covered_none y x (λ d c. omega (arith, a.de_be, a.be_n)))

  pub covered_total : s.cursor ≡ true
      → rows_total s (covered_bright s video cursor pixels) ≡ total (cursor_raster s video cursor pixels) (s.vce.0 - s.vcs.0)
  unfolding cursor_raster
  covered_total on =
      let end = a.cursor on in
      let row : ℕ → ℕ = λ y. total (covered_bright s video cursor pixels y) s.n.0 in
      total_window row s.vcs.0 (s.vce.0 - s.vcs.0) s.v.0
      (record { low = λ y l. covered_row_none y (λ x d c. omega arith); high = λ y l. covered_row_none y (λ x d c. omega arith) })
      (λ y l. covered_row_none y (λ x d c. omega arith))
      ∙ total_as (λ j. row (s.vcs.0 + j)) (λ j. raster_bright s video cursor pixels (s.vcs.0 + j)) (s.vce.0 - s.vcs.0)
      (λ j l. row_covered (s.vcs.0 + j))

  pub covered_off : s.cursor ≡ false → rows_total s (covered_bright s video cursor pixels) ≡ 0
  covered_off off =
      total_none (λ y. total (covered_bright s video cursor pixels y) s.n.0) s.v.0
      (λ y l. covered_row_none y (λ x d c. no (sym off ∙ c.on)))
