-- The control register: its bit fields, each named once, and what they choose.
use Rattle.std.specs.Prelude.{ℕ, Bool, not, [], ◌∷◌, eqb, get_or}
use Rattle.buffers.specs.Bits.{bits}
use Rattle.registers.specs.Addresses.{CONTROL}
use Rattle.registers.specs.Record.{value_at}
use Rattle.registers.specs.declared.record.Registers.{Registers}

abbrev pub rate_field : ℕ → ℕ
rate_field control = bits 1 0 control

abbrev pub depth_field : ℕ → ℕ
depth_field control = bits 3 2 control

abbrev pub interlace_field : ℕ → ℕ
interlace_field control = bits 6 6 control

abbrev pub composite_field : ℕ → ℕ
composite_field control = bits 7 7 control

abbrev pub test_field : ℕ → ℕ
test_field control = bits 15 14 control

-- The control register's data.
abbrev pub control : Registers → ℕ
control g = value_at g CONTROL

-- The pixel rate in MHz.
abbrev pub pixel_rate : Registers → ℕ
pixel_rate g = get_or (8 ∷ 12 ∷ 16 ∷ 24 ∷ []) (rate_field (control g)) 0

abbrev pub depth_choice : Registers → ℕ
depth_choice g = depth_field (control g)

abbrev pub depth_of : Registers → ℕ
depth_of g = get_or (1 ∷ 2 ∷ 4 ∷ 8 ∷ []) (depth_choice g) 0

-- The display's offset k, by depth.
abbrev pub display_offset : Registers → ℕ
display_offset g = get_or (19 ∷ 11 ∷ 7 ∷ 5 ∷ []) (depth_choice g) 0

-- How many palette entries are in use, by depth.
abbrev pub entries_in_use : Registers → ℕ
entries_in_use g = get_or (2 ∷ 4 ∷ 16 ∷ 16 ∷ []) (depth_choice g) 0

-- Control bit 14 or 15 set.
abbrev pub test_mode : Registers → Bool
test_mode g = not (eqb (test_field (control g)) 0)

-- Control bit 6 set.
abbrev pub interlaced : Registers → Bool
interlaced g = not (eqb (interlace_field (control g)) 0)
