-- Stereo values, the sound frequency, and what is wrong with them.
use Rattle.std.specs.Prelude.{ℕ, Bool, ◌&&◌, ◌||◌, not, ltb, eqb}
use Rattle.buffers.specs.Bits.{bits}
use Rattle.registers.specs.Addresses.{at, stereo_slot, STEREO, SOUND_FREQUENCY}
use Rattle.registers.specs.Record.{held_in, written_in}
use Rattle.registers.specs.Needed.{among}
use Rattle.registers.specs.declared.record.Registers.{Registers}

-- A stereo value is bits 2-0, the sound frequency bits 7-0.
abbrev pub stereo_in : Registers → ℕ → ℕ
stereo_in g slot = bits 2 0 (held_in g slot)

abbrev pub frequency_in : Registers → ℕ → ℕ
frequency_in g slot = bits 7 0 (held_in g slot)

abbrev pub stereo_of : Registers → ℕ → ℕ
stereo_of g channel = stereo_in g (stereo_slot channel)

abbrev pub frequency_of : Registers → ℕ
frequency_of g = frequency_in g (at SOUND_FREQUENCY)

-- Sound needs its frequency and all stereo registers.
abbrev pub is_stereo : ℕ → Bool
is_stereo slot = among (STEREO 7) (STEREO 6) slot

abbrev pub is_frequency : ℕ → Bool
is_frequency slot = eqb slot (at SOUND_FREQUENCY)

abbrev pub sound_missing : Registers → ℕ → Bool
sound_missing g slot = (is_stereo slot || is_frequency slot) && not (written_in g slot)

-- A stereo value 0, or a sound frequency below 3.
abbrev pub sound_wrong : Registers → ℕ → Bool
sound_wrong g slot = (is_stereo slot && eqb (stereo_in g slot) 0) || (is_frequency slot && ltb (frequency_in g slot) 3)
