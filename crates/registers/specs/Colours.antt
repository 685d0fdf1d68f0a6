-- The palettes: 13-bit colours.
use Rattle.std.specs.Prelude.{ℕ, ◌+◌, ◌%◌}
use Rattle.buffers.specs.Bits.{bits}
use Rattle.registers.specs.Addresses.{at, BORDER}
use Rattle.registers.specs.Record.{held_in}
use Rattle.registers.specs.declared.record.Registers.{Registers}

-- The colour in a slot. Of the data only the low 13 bits play a part.
abbrev pub colour_in : Registers → ℕ → ℕ
colour_in g slot = bits 12 0 (held_in g slot)

-- Video palette entry i, 0 to 15.
abbrev pub palette_of : Registers → ℕ → ℕ
palette_of g i = colour_in g (i % 16)

abbrev pub border_of : Registers → ℕ
border_of g = colour_in g (at BORDER)

-- Cursor palette entry i, 1 to 3, behind the border colour.
abbrev pub cursor_of : Registers → ℕ → ℕ
cursor_of g i = colour_in g (at BORDER + i % 4)
