-- What sound asks of a record: C0H and all stereo registers, 3 then 10.
use Rattle.std.specs.Prelude.{ℕ, ◌*◌, List, [], ◌∷◌, ltb}
use Rattle.refusals.specs.Table.{Told, Row, row, judged}
use Rattle.registers.specs.Lowest.{lowest}
use Rattle.registers.specs.Stereo.{sound_missing, sound_wrong}
use Rattle.registers.specs.declared.record.Registers.{Registers}

-- The lowest slot of each fault, or 64.
abbrev pub sound_unwritten : Registers → ℕ
sound_unwritten g = lowest (sound_missing g) 64 0

abbrev pub sound_fault : Registers → ℕ
sound_fault g = lowest (sound_wrong g) 64 0

abbrev pub sound_table : Registers → List Row
sound_table g =
    row 3 (ltb (sound_unwritten g) 64) (4 * sound_unwritten g)
    ∷ row 10 (ltb (sound_fault g) 64) (4 * sound_fault g)
    ∷ []

unfoldable pub sound_told : Registers → Told (Unit {0})
sound_told g = judged (sound_table g) tt
