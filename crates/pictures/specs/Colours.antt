-- The bytes of a picture: red, green and blue of each cell.
use Rattle.std.specs.Prelude.{ℕ, ◌*◌, List, [], ◌∷◌}
use Rattle.colours.specs.Guns.{red_gun, green_gun, blue_gun}
use Rattle.colours.specs.Cells.{cell_colour}

-- Each gun times 17: a gun of 15 is 255.
abbrev pub red : ℕ → ℕ
red colour = 17 * red_gun colour

abbrev pub green : ℕ → ℕ
green colour = 17 * green_gun colour

abbrev pub blue : ℕ → ℕ
blue colour = 17 * blue_gun colour

-- A cell's colour is 0 for sync and blank cells.
unfoldable pub guns_of : List ℕ → List ℕ
guns_of [] = []
guns_of (x ∷ xs) = red (cell_colour x) ∷ green (cell_colour x) ∷ blue (cell_colour x) ∷ guns_of xs
