-- Loading a list of register words: applied in order, the last write counts.
use Rattle.std.specs.Prelude.{ℕ, suc, List, [], ◌∷◌, length, ltb}
use Rattle.buffers.specs.Pick.{pick}
use Rattle.refusals.specs.Table.{Told, Row, row, judged}
use Rattle.registers.specs.Record.{slot_of, reserved, stored_of}
use Rattle.registers.specs.declared.record.Registers.{Registers}

-- How many words stand before the first whose address is reserved.
unfoldable pub leading : List ℕ → ℕ
leading [] = 0
leading (w ∷ ws) = pick (reserved (slot_of w)) 0 (suc (leading ws))

-- The words applied in order.
unfoldable pub applied : Registers → List ℕ → Registers
applied g [] = g
applied g (w ∷ ws) = applied (stored_of g w) ws

abbrev pub load_table : List ℕ → List Row
load_table words =
    row 1 (ltb 1024 (length words)) 0
    ∷ row 2 (ltb (leading words) (length words)) (leading words)
    ∷ []

unfoldable pub load_told : List ℕ → Told (Unit {0})
load_told words = judged (load_table words) tt
