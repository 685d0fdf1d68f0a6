-- The colour that a logical pixel shows.
use Rattle.std.specs.Prelude.{ℕ, ◌+◌, ◌*◌, ◌^◌, List, eqb}
use Rattle.buffers.specs.Bits.{bits}
use Rattle.buffers.specs.Pick.{pick}
use Rattle.buffers.specs.Values.{values_from}
use Rattle.registers.specs.Colours.{palette_of}
use Rattle.registers.specs.declared.record.Registers.{Registers}
use Rattle.colours.specs.Guns.{supremacy_of}

-- Depth 8: the upper four bits of the pixel p take the places of colour bits 11, 7, 6 and 3; the others are those of the entry e.
abbrev pub mixed : ℕ → ℕ → ℕ
mixed e p =
    supremacy_of e * 2 ^ 12 + bits 7 7 p * 2 ^ 11 + bits 10 8 e * 2 ^ 8 + bits 6 6 p * 2 ^ 7 + bits 5 5 p * 2 ^ 6 + bits 5 4 e * 2 ^ 4
    + bits 4 4 p * 2 ^ 3 + bits 2 0 e

-- Depth 1, 2, 4: the entry in all 13 bits.
abbrev pub shown_of : ℕ → ℕ → ℕ → ℕ
shown_of e d p = pick (eqb d 8) (mixed e p) (bits 12 0 e)

-- The logical pixel picks the entry, at depth 8 its low nibble.
abbrev pub colour_of : Registers → ℕ → ℕ → ℕ
colour_of g d p = shown_of (palette_of g p) d p

-- The sixteen entries.
unfoldable pub entries_of : Registers → List ℕ
entries_of g = values_from (palette_of g) 0 16
