-- A plate that comes in on standard input, which may have 65,536 bytes: 15, then 14. There is room for all its words.
use Rattle.std.specs.Prelude.{ℕ, List, [], ◌∷◌, ◌++◌, ltb, length}
use Rattle.std.proofs.lemmas.List.Edits.{sets}
use Rattle.refusals.specs.Table.{Told, Row, row, judged, unless_refused}
use Rattle.plates.specs.Read.{read_table, copied}
use Rattle.sheets.specs.Sheet.{parts_of}
use Rattle.sheets.specs.declared.Parts.{Parts}

abbrev pub most_input : ℕ
most_input = 65536

abbrev pub input_table : List ℕ → List Row
input_table file = (row 15 (ltb most_input (length file)) 0 ∷ []) ++ read_table file

unfoldable pub input_told : List ℕ → Told (Unit {0})
input_told file = judged (input_table file) tt

-- The same, with its parts where it is not refused.
unfoldable pub take_input_told : List ℕ → Told Parts
take_input_told file = judged (input_table file) (parts_of file)

-- What the lent list holds afterwards.
abbrev pub input_leaves : List ℕ → List ℕ → List ℕ
input_leaves file words = unless_refused (input_told file) words (sets words 0 (copied file))
