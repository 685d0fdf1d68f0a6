-- Sync and blank cells are black in a picture.
use Prim.Native.Nat.{ℕ, ◌≤◌}
use mathlib.Core.Path.{◌≡◌, refl}
use mathlib.Core.List.{List}
use native.Mathlib.Omega.{arith}
use borrow.Author.Tests.{ne_eqb}
use Rattle.registers.specs.declared.record.Registers.{Registers}
use Rattle.registers.specs.declared.setting.Setting.{Setting}
use Rattle.colours.specs.Cells.{cell_colour}
use Rattle.pictures.specs.Colours.{red, green, blue}
use Rattle.cells.specs.Cell.{code, cell}

module _ (g : Registers) (s : Setting) (video cursor : List ℕ) (x y : ℕ) (h : code s cursor x y ≤ 3) where
  no_colour : cell_colour (cell g s video cursor x y) ≡ 0
  unfolding cell
  no_colour =
      let c : ℕ = code s cursor x y in
      rw (ne_eqb c 6 (λ e. omega arith), ne_eqb c 5 (λ e. omega arith), ne_eqb c 4 (λ e. omega arith)) (omega arith)

  pub black : (red (cell_colour (cell g s video cursor x y)) ≡ 0) × (green (cell_colour (cell g s video cursor x y)) ≡ 0)
      × (blue (cell_colour (cell g s video cursor x y)) ≡ 0)
  black = rw no_colour (refl, refl, refl)
