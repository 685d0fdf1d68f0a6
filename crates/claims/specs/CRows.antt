-- The tables of the calls for C, made of those of the calls below them: 13 for what is no record comes before all, 13 for a lent slice after all.
use Rattle.std.specs.Prelude.{ℕ, List, [], ◌∷◌, ltb, length}
use Rattle.refusals.specs.Table.{Row, row}
use Rattle.registers.specs.declared.record.Registers.{Registers}
use Rattle.outputs.specs.Text.{text_of}
use Rattle.vombelishi.specs.Record.{lacking, record_of}

-- A call of a record: 13 for a slice shorter than 64, then the call's own table of the record that the two slices hold.
abbrev pub of_record : List ℕ → List ℕ → (Registers → List Row) → List Row
of_record values written own = row 13 (lacking values written) 0 ∷ own (record_of values written)

-- 13 for a slice lent for so many numbers.
abbrev pub room_for : ℕ → ℕ → List Row
room_for needed places = row 13 (ltb places needed) 0 ∷ []

-- The printer's text: 13 where not all of it fits.
abbrev pub text_rows : List ℕ → ℕ → List Row
text_rows file places = room_for (length (text_of file)) places
