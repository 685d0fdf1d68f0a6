-- What a cell has of the video list: the colour of its logical pixel where its position is uncovered, and nothing elsewhere.
use Prim.Native.Nat.{ℕ, ◌%◌}
use mathlib.Core.Path.{◌≡◌, refl, sym, ◌∙◌, ap}
use mathlib.Core.Bool.{Bool, true, false, ◌&&◌, not}
use mathlib.Core.List.{List}
use mathlib.Core.Logic.{inl, inr}
use lib.Dec.{eqb}
use borrow.Author.Tests.{eqb-true}
use Rattle.buffers.proofs.Split.{true_or_false}
use Rattle.registers.specs.declared.record.Registers.{Registers}
use Rattle.registers.specs.declared.setting.Setting.{Setting}
use Rattle.registers.specs.inner.Accepted.{Accepted}
use Rattle.colours.specs.Colour.{colour_of}
use Rattle.cells.specs.Pixel.{logical}
use Rattle.cells.specs.Cell.{in_display, covered, code, cell}
use Rattle.cells.proofs.Regions.{code_five, plain_five, cell_colour_holds}
use Rattle.claims.specs.Shown.{uncovered}

swapped : (a b : Bool) → not a && b ≡ (b && not a)
swapped true true = refl
swapped true false = refl
swapped false true = refl
swapped false false = refl

module _ (g : Registers) (s : Setting) (a : Accepted s) (cursor : List ℕ) (x y : ℕ) where
  -- Code 5 is that of the display positions that the cursor leaves uncovered.
  pub five_uncovered : eqb (code s cursor x y) 5 ≡ uncovered s cursor x y
  unfolding uncovered
  five_uncovered =
      code_five s x y cursor
      ∙ ap (λ (t : Bool). not (covered s cursor x y) && t) (plain_five s a x y)
      ∙ swapped (covered s cursor x y) (in_display s x y)

  pub same_cell : (video other : List ℕ)
      → (uncovered s cursor x y ≡ true → colour_of g s.depth (logical s video x y) ≡ colour_of g s.depth (logical s other x y))
      → cell g s video cursor x y ≡ cell g s other cursor x y
  unfolding cell
  same_cell video other h =
      elim (true_or_false (eqb (code s cursor x y) 5)) [
        | inl e ↦ rw (e, h (sym five_uncovered ∙ e))
        | inr e ↦ rw e
      ]

  shown_colour : (video : List ℕ) → uncovered s cursor x y ≡ true → cell g s video cursor x y % 8192 ≡ colour_of g s.depth (logical s video x y)
  shown_colour video u =
      let five : code s cursor x y ≡ 5 = eqb-true _ _ (five_uncovered ∙ u) in
      cell_colour_holds g s video cursor x y ∙ rw five

  pub told_colour : (video other : List ℕ) → uncovered s cursor x y ≡ true → cell g s video cursor x y ≡ cell g s other cursor x y
      → colour_of g s.depth (logical s video x y) ≡ colour_of g s.depth (logical s other x y)
  told_colour video other u e =
      sym (shown_colour video u) ∙ ap (λ (n : ℕ). n % 8192) e ∙ shown_colour other u
