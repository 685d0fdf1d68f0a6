-- A register record as two lent lists, of which the first 64 count: the data, and a byte for each register that is not 0 where it was written.
use Rattle.std.specs.Prelude.{ℕ, Bool, not, ◌||◌, List, [], ◌∷◌, map, ltb, eqb, length, take}
use Rattle.refusals.specs.Table.{Told, given, refused, row, judged}
use Rattle.registers.specs.Record.{registers_by}
use Rattle.registers.specs.declared.record.Registers.{Registers}

abbrev pub is_set : ℕ → Bool
is_set byte = not (eqb byte 0)

unfoldable pub record_of : List ℕ → List ℕ → Registers
record_of values written = registers_by (take 64 values) (map is_set (take 64 written))

-- A list shorter than 64 is no record.
abbrev pub lacking : List ℕ → List ℕ → Bool
lacking values written = ltb (length values) 64 || ltb (length written) 64

-- 13, before every refusal of the call itself.
unfoldable pub record_told : List ℕ → List ℕ → Told Registers
record_told values written = judged (row 13 (lacking values written) 0 ∷ []) (record_of values written)

-- What stands afterwards: as it was, where there is no record.
abbrev pub under_record : {B : Type 0} → Told Registers → B → (Registers → B) → B
under_record (given g) was then = then g
under_record (refused w) was then = was
