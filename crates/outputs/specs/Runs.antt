-- A raster's line: its runs of equal codes, parted by single spaces, ended by a newline.
use Rattle.std.specs.Prelude.{ℕ, suc, List, [], ◌∷◌, ◌++◌, eqb}
use Rattle.buffers.specs.Pick.{pick}
use Rattle.colours.specs.Cells.{cell_code}
use Rattle.outputs.specs.Decimal.{decimal}

-- A run is code x length; 120 is the letter x.
unfoldable pub run : ℕ → ℕ → List ℕ
run code n = decimal code ++ (120 ∷ decimal n)

-- The runs of some cells, after n cells of a code; 32 is the space.
unfoldable pub runs_from : ℕ → ℕ → List ℕ → List ℕ
runs_from code n [] = run code n
runs_from code n (x ∷ xs) = pick (eqb (cell_code x) code) (runs_from code (suc n) xs) (run code n ++ (32 ∷ runs_from (cell_code x) 1 xs))

-- 10 is the newline.
unfoldable pub line_of : List ℕ → List ℕ
line_of [] = 10 ∷ []
line_of (x ∷ xs) = runs_from (cell_code x) 1 xs ++ (10 ∷ [])
