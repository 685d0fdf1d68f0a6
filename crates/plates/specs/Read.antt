-- Reading a file, 14, and copying out all words before the trailer, 14 then 13.
use Rattle.std.specs.Prelude.{ℕ, ◌*◌, not, List, [], ◌∷◌, ◌++◌, length, take, ltb}
use Rattle.std.proofs.lemmas.List.Edits.{sets}
use Rattle.buffers.specs.Words.{words_of}
use Rattle.refusals.specs.Table.{Told, Row, row, judged, unless_refused}
use Rattle.plates.specs.Plate.{r_of, right, sections_of}
use Rattle.plates.specs.declared.Sections.{Sections}

abbrev pub read_table : List ℕ → List Row
read_table file = row 14 (not (right file)) 0 ∷ []

unfoldable pub read_told : List ℕ → Told Sections
read_told file = judged (read_table file) (sections_of file)

-- Copying out into a list of some places.
abbrev pub copy_table : List ℕ → ℕ → List Row
copy_table file places = read_table file ++ (row 13 (ltb places (r_of file)) 0 ∷ [])

unfoldable pub copy_told : List ℕ → ℕ → Told (Unit {0})
copy_told file places = judged (copy_table file places) tt

-- All words before the trailer, in order.
abbrev pub copied : List ℕ → List ℕ
copied file = words_of (take (4 * r_of file) file)

-- What the lent list holds afterwards.
abbrev pub copy_leaves : List ℕ → List ℕ → List ℕ
copy_leaves file out = unless_refused (copy_told file (length out)) out (sets out 0 (copied file))
