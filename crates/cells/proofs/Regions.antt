-- Where each code applies: a test of a region holds exactly where the position lies in it; in an accepted setting the display lies in
-- the border and the border in no sync. And a cell is taken apart again into its code and its colour.
use Prim.Native.Nat.{ℕ, ◌+◌, ◌*◌, ◌-◌, ◌/◌, ◌%◌, ◌<◌, ◌≤◌}
use mathlib.Core.Bool.{Bool, true, false, ◌&&◌, not, true≢false}
use mathlib.Core.List.{List}
use mathlib.Core.Logic.{inl, inr}
use mathlib.Core.Path.{◌≡◌, refl, sym, ◌∙◌}
use native.Mathlib.Omega.{arith}
use lib.Arith.{digits_div, digits_mod}
use lib.Dec.{ltb, leb, eqb}
use borrow.Author.Tests.{leb-true, le-leb, le-ltb, lt-ltb, ltb-true, not-true}
use Rattle.buffers.specs.Pick.{pick}
use Rattle.buffers.proofs.Tests.{and_split, and_join}
use Rattle.buffers.proofs.Split.{true_or_false, is_false}
use Rattle.registers.specs.Setting.{display_on, border_on}
use Rattle.registers.specs.Colours.{cursor_of}
use Rattle.registers.specs.declared.record.Registers.{Registers}
use Rattle.registers.specs.declared.setting.Setting.{Setting}
use Rattle.registers.specs.inner.Accepted.{Accepted}
use Rattle.colours.proofs.Bounds.{colour_below, picked_below}
use Rattle.cells.specs.Pixel.{logical, cursor_pair}
use Rattle.cells.specs.Cell.{within, in_display, in_border, in_cursor, plain_code, covered, code, colour, cell}
use Rattle.cells.specs.inner.Region.{Inside, InDisplay, InBorder, Reached}

pub within_true : (from to k : ℕ) → within from to k ≡ true → (from ≤ k) × (k < to)
within_true from to k e =
    let h = and_split (leb from k) (ltb k to) e in
    (leb-true from k h.0, ltb-true k to h.1)

pub true_within : (from to k : ℕ) → from ≤ k → k < to → within from to k ≡ true
true_within from to k a b = rw (le-leb from k a, lt-ltb k to b)

-- A region that is on, its columns and its rasters, by three tests.
region_inside : (on : Bool) (from to first end x y : ℕ) → on && within from to x && within first end y ≡ true → Inside from to first end x y
region_inside on from to first end x y e =
    let h = and_split (on && within from to x) (within first end y) e in
    let p = within_true from to x (and_split on (within from to x) h.0).1 in
    let q = within_true first end y h.1 in
    record { left = p.0; right = p.1; above = q.0; below = q.1 }

inside_region : (on : Bool) (from to first end x y : ℕ) → on ≡ true → Inside from to first end x y → on && within from to x && within first end y ≡ true
inside_region on from to first end x y o i =
    and_join (and_join o (true_within from to x i.left i.right)) (true_within first end y i.above i.below)

module _ (s : Setting) (x y : ℕ) where
  pub border_inside : in_border s x y ≡ true → InBorder s x y
  border_inside e = region_inside (border_on s) s.bs.0 s.be.0 s.vbs.0 s.vbe.0 x y e

  pub inside_border : InBorder s x y → in_border s x y ≡ true
  inside_border i =
      inside_region (border_on s) s.bs.0 s.be.0 s.vbs.0 s.vbe.0 x y (lt-ltb s.vbs.0 s.vbe.0 (omega arith)) i

  pub display_inside : in_display s x y ≡ true → InDisplay s x y
  display_inside e = region_inside (display_on s) s.ds.0 s.de.0 s.vds.0 s.vde.0 x y e

  pub display_on_holds : InDisplay s x y → display_on s ≡ true
  display_on_holds i = lt-ltb s.vds.0 s.vde.0 (omega arith)

  pub inside_display : InDisplay s x y → in_display s x y ≡ true
  inside_display i = inside_region (display_on s) s.ds.0 s.de.0 s.vds.0 s.vde.0 x y (display_on_holds i) i

-- Of the codes only 5 is 5.
five : (a b e f : Bool)
    → eqb (pick (ltb 0 (pick a 1 0 + pick b 2 0)) (pick a 1 0 + pick b 2 0) (pick e 5 (pick f 4 0))) 5 ≡ (e && not a && not b)
five true true true f = refl
five true false true f = refl
five false true true f = refl
five false false true f = refl
five true true false f = refl
five true false false f = refl
five false true false f = refl
five false false false true = refl
five false false false false = refl

implied : (e a b : Bool) → (e ≡ true → a ≡ false) → (e ≡ true → b ≡ false) → (e && not a && not b) ≡ e
implied true a b p q = rw (p refl, q refl)
implied false a b p q = refl

-- What a covered position passes: its code, the cursor's place, a pair that is not 00.
module _ (s : Setting) (x y : ℕ) (cursor : List ℕ) where
  covered_tests : covered s cursor x y ≡ true
      → (leb 4 (plain_code s x y) ≡ true) × (in_cursor s x y ≡ true) × (not (eqb (cursor_pair s cursor y (x - s.cx.0)) 0) ≡ true)
  unfolding covered
  covered_tests e =
      let shown = not (eqb (cursor_pair s cursor y (x - s.cx.0)) 0) in
      let p = and_split (leb 4 (plain_code s x y) && in_cursor s x y) shown e in
      let q = and_split (leb 4 (plain_code s x y)) (in_cursor s x y) p.0 in
      (q.0, q.1, p.1)

  pub covered_shown : covered s cursor x y ≡ true → eqb (cursor_pair s cursor y (x - s.cx.0)) 0 ≡ false
  covered_shown e = not-true (eqb (cursor_pair s cursor y (x - s.cx.0)) 0) (covered_tests e).2

module _ (s : Setting) (r : Accepted s) (x y : ℕ) where
  -- The display lies in the border, and the border in no sync.
  pub display_bordered : InDisplay s x y → InBorder s x y
  display_bordered i =
      let o = r.display (display_on_holds s x y i) in
      record { left = omega arith; right = omega arith; above = omega arith; below = omega arith }

  pub border_shown : InBorder s x y → (s.hs.0 ≤ x) × (s.vs.0 ≤ y)
  border_shown i =
      let o = r.border (lt-ltb s.vbs.0 s.vbe.0 (omega arith)) in
      (omega arith, omega arith)

  -- Code 5 applies in the display.
  pub plain_five : eqb (plain_code s x y) 5 ≡ in_display s x y
  unfolding plain_code
  plain_five =
      let shown : in_display s x y ≡ true → (s.hs.0 ≤ x) × (s.vs.0 ≤ y) = λ e. border_shown (display_bordered (display_inside s x y e)) in
      five (ltb x s.hs.0) (ltb y s.vs.0) (in_display s x y) (in_border s x y)
      ∙ implied (in_display s x y) (ltb x s.hs.0) (ltb y s.vs.0)
      (λ e. le-ltb x s.hs.0 (shown e).0) (λ e. le-ltb y s.vs.0 (shown e).1)

  -- Codes 4 and 5 apply in the border.
  code_border : leb 4 (plain_code s x y) ≡ true → InBorder s x y
  unfolding plain_code
  code_border e =
      elim (true_or_false (in_border s x y)) [
        | inl b ↦ border_inside s x y b
        | inr b ↦
            let out : in_display s x y ≡ true → ⊥ = λ t. true≢false (sym (inside_border s x y (display_bordered (display_inside s x y t))) ∙ b) in
            absurd (low (ltb x s.hs.0) (ltb y s.vs.0) (rw (is_false (in_display s x y) out, b) at e))
      ]
    where
      low : (a b : Bool) → leb 4 (pick (ltb 0 (pick a 1 0 + pick b 2 0)) (pick a 1 0 + pick b 2 0) 0) ≡ true → ⊥
      low true true t = true≢false (sym t)
      low true false t = true≢false (sym t)
      low false true t = true≢false (sym t)
      low false false t = true≢false (sym t)

  border_code : InBorder s x y → leb 4 (plain_code s x y) ≡ true
  unfolding plain_code
  border_code i =
      let o = border_shown i in
      rw (le-ltb x s.hs.0 o.0, le-ltb y s.vs.0 o.1, inside_border s x y i) (either (in_display s x y))
    where
      either : (t : Bool) → leb 4 (pick t 5 4) ≡ true
      either true = refl
      either false = refl

  -- The cursor covers where it reaches, by a pair that is not 00.
  module _ (cursor : List ℕ) where
    pub covered_reached : covered s cursor x y ≡ true → Reached s x y
    covered_reached e =
        let t = covered_tests s x y cursor e in
        let f = and_split (s.cursor && within s.vcs.0 s.vce.0 y) (within s.cx.0 (s.cx.0 + 32) x) t.1 in
        let d = and_split s.cursor (within s.vcs.0 s.vce.0 y) f.0 in
        let rows = within_true s.vcs.0 s.vce.0 y d.1 in
        let columns = within_true s.cx.0 (s.cx.0 + 32) x f.1 in
        record {
          on = d.0;
          border = code_border t.0;
          cursor = record { left = columns.0; right = columns.1; above = rows.0; below = rows.1 };
        }

    pub reached_covered : Reached s x y → covered s cursor x y ≡ not (eqb (cursor_pair s cursor y (x - s.cx.0)) 0)
    unfolding covered
    reached_covered h =
        let c = h.cursor in
        rw (
          border_code h.border,
          h.on,
          true_within s.vcs.0 s.vce.0 y c.above c.below,
          true_within s.cx.0 (s.cx.0 + 32) x c.left c.right,
        )

uncovered : (c : Bool) (p : ℕ) → eqb (pick c 6 p) 5 ≡ (not c && eqb p 5)
uncovered true p = refl
uncovered false p = refl

pub code_five : (s : Setting) (x y : ℕ) (cursor : List ℕ) → eqb (code s cursor x y) 5 ≡ (not (covered s cursor x y) && eqb (plain_code s x y) 5)
unfolding code
code_five s x y cursor = uncovered (covered s cursor x y) (plain_code s x y)

-- A cell's code and colour.
module _ (g : Registers) (s : Setting) (video cursor : List ℕ) (x y : ℕ) where
  colour_small : colour g s video cursor x y < 8192
  colour_small =
      picked_below (eqb (code s cursor x y) 6) (omega arith)
      (picked_below (eqb (code s cursor x y) 5) (colour_below g s.depth (logical s video x y))
      (picked_below (eqb (code s cursor x y) 4) (omega arith) (omega arith)))

  pub cell_code_holds : cell g s video cursor x y / 8192 ≡ code s cursor x y
  unfolding cell
  cell_code_holds = digits_div (code s cursor x y) colour_small

  pub cell_colour_holds : cell g s video cursor x y % 8192 ≡ colour g s video cursor x y
  unfolding cell
  cell_colour_holds = digits_mod (code s cursor x y) colour_small

  -- Where it is covered: the cursor's own colour.
  pub covered_cell : covered s cursor x y ≡ true → cell g s video cursor x y ≡ 6 * 8192 + cursor_of g (cursor_pair s cursor y (x - s.cx.0))
  unfolding cell code
  covered_cell e = rw e
