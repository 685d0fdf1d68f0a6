-- One byte's pair for a stereo value of three bits: 10 where it is 0.
use Rattle.std.specs.Prelude.{ℕ, List, [], ◌∷◌, ◌==◌}
use Rattle.buffers.specs.Bits.{bits}
use Rattle.refusals.specs.Table.{Told, Row, row, judged}
use Rattle.sound.specs.Amplitude.{value_of}
use Rattle.sound.specs.Sixths.{left_of, right_of}
use Rattle.sound.specs.declared.Sides.{Sides}

abbrev pub sides_of : ℕ → ℕ → Sides
sides_of byte stereo = record { left = value_of byte (left_of stereo); right = value_of byte (right_of stereo) }

abbrev pub pair_table : ℕ → List Row
pair_table stereo = row 10 (bits 2 0 stereo == 0) 0 ∷ []

unfoldable pub pair_told : ℕ → ℕ → Told Sides
pair_told byte stereo = judged (pair_table stereo) (sides_of byte (bits 2 0 stereo))
