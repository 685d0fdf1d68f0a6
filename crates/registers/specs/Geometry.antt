-- Geometry: what the horizontal and vertical registers say, in pixels and rasters.
use Rattle.std.specs.Prelude.{ℕ, ◌+◌, ◌*◌, Bool, ◌&&◌, ltb}
use Rattle.buffers.specs.Bits.{bits}
use Rattle.registers.specs.Addresses.{HCSR, VCSR, VCER}
use Rattle.registers.specs.Record.{value_at, written_at}
use Rattle.registers.specs.declared.record.Registers.{Registers}
use Rattle.registers.specs.declared.units.Pixels.{Pixels}
use Rattle.registers.specs.declared.units.Rasters.{Rasters}

-- Horizontal and vertical values v are bits 23 to 14.
abbrev pub ten_bits : Registers → ℕ → ℕ
ten_bits g address = bits 23 14 (value_at g address)

-- Of a horizontal register with its offset k: 2v + k.
abbrev pub pixels_at : Registers → ℕ → ℕ → Pixels
pixels_at g address k = record { 0 = 2 * ten_bits g address + k }

-- Of a vertical register: v + 1.
abbrev pub rasters_at : Registers → ℕ → Rasters
rasters_at g address = record { 0 = ten_bits g address + 1 }

-- Cursor start: v + 6 for the eleven bits 23 to 13; bits 12 and 11 are the sub-position.
abbrev pub cursor_start : Registers → Pixels
cursor_start g = record { 0 = bits 23 13 (value_at g HCSR) + 6 }

abbrev pub sub_position : Registers → ℕ
sub_position g = bits 12 11 (value_at g HCSR)

-- The cursor is on: both of its vertical registers were written, and it ends below its start.
abbrev pub cursor_on : Registers → Bool
cursor_on g = written_at g VCSR && written_at g VCER && ltb (rasters_at g VCSR).0 (rasters_at g VCER).0
