-- At each position: it is a mark, or a bright pixel that the cursor covers, exactly where a bright pixel is displayed.
use Prim.Native.Nat.{ℕ, ◌+◌}
use mathlib.Core.Bool.{Bool, true, false, not, and-false}
use mathlib.Core.List.{List}
use mathlib.Core.Path.{◌≡◌, refl, ◌∙◌, ap}
use native.Mathlib.Nat.{zero-add}
use native.Mathlib.Omega.{arith}
use lib.Dec.{leb, eqb}
use lib.ListN.{get_or}
use lib.Pow.{pow_mono}
use borrow.Author.Tests.{eqb-true}
use Rattle.buffers.specs.Pick.{pick}
use Rattle.registers.specs.declared.record.Registers.{Registers}
use Rattle.registers.specs.declared.setting.Setting.{Setting}
use Rattle.registers.specs.inner.Accepted.{Accepted}
use Rattle.registers.proofs.Words.{depth_most}
use Rattle.colours.specs.Colour.{colour_of}
use Rattle.colours.specs.Grey.{grey_of}
use Rattle.cells.specs.Pixel.{logical, position}
use Rattle.cells.specs.Cell.{in_display, plain_code, covered, code, cell}
use Rattle.cells.proofs.PixelPlaces.{pixel_below}
use Rattle.cells.proofs.Regions.{cell_code_holds, cell_colour_holds, plain_five, code_five}
use Rattle.marks.specs.Count.{bit}
use Rattle.marks.specs.Marks.{is_mark}
use Rattle.marks.specs.inner.Bright.{Tabled, bright, covered_bright}

-- Position x of raster y counts as a mark, and holds a bright pixel of the display.
abbrev pub mark_in : Registers → Setting → List ℕ → List ℕ → ℕ → ℕ → ℕ → ℕ
mark_in g s video cursor threshold y x = bit (is_mark threshold (cell g s video cursor x y))

abbrev pub display_bright : Setting → List ℕ → List ℕ → ℕ → ℕ → ℕ
display_bright s video pixels y x = pick (in_display s x y) (get_or pixels (logical s video x y) 0) 0

module _ (g : Registers) (s : Setting) (video cursor : List ℕ) (threshold : ℕ) (x y : ℕ) where
  mark_five : eqb (code s cursor x y) 5 ≡ true
      → is_mark threshold (cell g s video cursor x y) ≡ leb threshold (grey_of (colour_of g s.depth (logical s video x y)))
  mark_five e =
      let five : code s cursor x y ≡ 5 = eqb-true (code s cursor x y) 5 e in
      rw (cell_code_holds g s video cursor x y, cell_colour_holds g s video cursor x y, five)

  pub mark_other : eqb (code s cursor x y) 5 ≡ false → is_mark threshold (cell g s video cursor x y) ≡ false
  mark_other e = rw (cell_code_holds g s video cursor x y, e)

  module _ (pixels : List ℕ) (a : Accepted s) (t : Tabled pixels 256 (bright g s.depth threshold)) where
    shown : get_or pixels (logical s video x y) 0 ≡ bright g s.depth threshold (logical s video x y)
    shown = t.on (logical s video x y) (omega (arith, pixel_below video s.depth (position s x y), pow_mono {j = 8} (depth_most a.depth)))

    cases : (c e : Bool) → covered s cursor x y ≡ c → eqb (plain_code s x y) 5 ≡ e
        → mark_in g s video cursor threshold y x + covered_bright s video cursor pixels y x ≡ pick e (get_or pixels (logical s video x y) 0) 0
    cases c false p q =
        let other : eqb (code s cursor x y) 5 ≡ false = code_five s x y cursor ∙ rw q (and-false (not (covered s cursor x y))) in
        rw (mark_other other, q)
    cases true true p q =
        let other : eqb (code s cursor x y) 5 ≡ false = code_five s x y cursor ∙ rw p in
        rw (mark_other other, p, q, zero-add)
    cases false true p q =
        let five : eqb (code s cursor x y) 5 ≡ true = code_five s x y cursor ∙ rw (p, q) in
        rw (mark_five five, p, q, shown) (omega arith)

    pub point : mark_in g s video cursor threshold y x + covered_bright s video cursor pixels y x ≡ display_bright s video pixels y x
    point =
        cases (covered s cursor x y) (eqb (plain_code s x y) 5) refl refl
        ∙ ap (λ b. pick b (get_or pixels (logical s video x y) 0) 0) (plain_five s a x y)
