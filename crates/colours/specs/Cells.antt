-- A cell: its code above the 13 bits of its colour.
use Rattle.std.specs.Prelude.{ℕ, ◌+◌, ◌*◌, ◌/◌, ◌^◌}
use Rattle.buffers.specs.Bits.{bits}

-- A cell of a code and a colour,
abbrev pub cell_with : ℕ → ℕ → ℕ
cell_with code colour = code * 2 ^ 13 + colour

-- and a cell taken apart.
abbrev pub cell_code : ℕ → ℕ
cell_code cell = cell / 2 ^ 13

abbrev pub cell_colour : ℕ → ℕ
cell_colour cell = bits 12 0 cell
