-- How the line printer goes from run to run: its functions use this among themselves, and no public promise reaches it.
use Rattle.std.specs.Prelude.{ℕ, ◌+◌, ◌*◌, ◌<◌, ◌≤◌, ◌≡◌, List, [], ◌∷◌, length, get_or}
use Rattle.std.proofs.lemmas.List.Edits.{sets}
use Rattle.colours.specs.Cells.{cell_code}
use Rattle.outputs.specs.Runs.{line_of}

abbrev pub code_at : List ℕ → ℕ → ℕ
code_at cells i = cell_code (get_or cells i 0)

-- The first r cells have a code, and the one after them, where there is one, has another.
pub record Same (cells : List ℕ) (code r : ℕ) : Type 0 where
  pub high : r ≤ length cells
  pub same : (k : ℕ) → k < r → code_at cells k ≡ code
  pub other : r < length cells → code_at cells r ≡ code → ⊥

-- What of a line is still to be stored: none where no cells are left.
unfoldable pub rest_of : List ℕ → List ℕ
rest_of [] = []
rest_of (x ∷ xs) = line_of (x ∷ xs)

-- Where a line stands before the run of the cells that are left: stored from `to` on, the rest of it is the whole line from `at` of the old
-- memory on. Four bytes a cell are room enough.
pub record Under (old new cells : List ℕ) (at to : ℕ) (left : List ℕ) : Type 0 where
  pub most : length left ≤ length cells
  pub fits : to + 4 * length left ≤ at + 4 * length cells
  pub len : length new ≡ length old
  pub same : sets new to (rest_of left) ≡ sets old at (line_of cells)
  pub long : to + length (rest_of left) ≡ at + length (line_of cells)
