-- How a stereo value shares a byte between the sides: 7 less the value goes left, in sixths, and what is left of six goes right.
use Rattle.std.specs.Prelude.{ℕ, ◌-◌}
use Rattle.registers.specs.Stereo.{stereo_of}
use Rattle.registers.specs.declared.record.Registers.{Registers}

abbrev pub left_of : ℕ → ℕ
left_of stereo = 7 - stereo

abbrev pub right_of : ℕ → ℕ
right_of stereo = 6 - left_of stereo

-- The sixths of a channel: its register's stereo value says them.
abbrev pub left_at : Registers → ℕ → ℕ
left_at g channel = left_of (stereo_of g channel)

abbrev pub right_at : Registers → ℕ → ℕ
right_at g channel = right_of (stereo_of g channel)
