-- Writing a plate of four lists: 15, then 13; the length written is given.
use Rattle.std.specs.Prelude.{ℕ, List, [], ◌∷◌, ltb, length}
use Rattle.std.proofs.lemmas.List.Edits.{sets}
use Rattle.refusals.specs.Table.{Told, Row, row, judged, unless_refused}
use Rattle.plates.specs.Plate.{most_bytes, plate_of, plate_length}

-- Writing into a list of some bytes.
abbrev pub write_table : List ℕ → List ℕ → List ℕ → List ℕ → ℕ → List Row
write_table rs vs cs ss places =
    row 15 (ltb most_bytes (plate_length rs vs cs ss)) 0 ∷ row 13 (ltb places (plate_length rs vs cs ss)) 0 ∷ []

unfoldable pub write_told : List ℕ → List ℕ → List ℕ → List ℕ → ℕ → Told ℕ
write_told rs vs cs ss places = judged (write_table rs vs cs ss places) (plate_length rs vs cs ss)

-- What the lent memory holds afterwards.
abbrev pub write_leaves : List ℕ → List ℕ → List ℕ → List ℕ → List ℕ → List ℕ
write_leaves rs vs cs ss out = unless_refused (write_told rs vs cs ss (length out)) out (sets out 0 (plate_of rs vs cs ss))
