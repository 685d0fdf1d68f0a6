-- The table that the sound call makes once and hands on to each word: the sixths of channels in a row. No public promise reaches these.
use Rattle.std.specs.Prelude.{◌≡◌, ℕ, ◌<◌, ◌≤◌, List, slice_index_or}
use Rattle.registers.specs.Stereo.{stereo_of}
use Rattle.registers.specs.declared.record.Registers.{Registers}
use Rattle.sound.specs.declared.sixths.Sixths.{Sixths}
use Rattle.sound.specs.Sixths.{left_of, right_of}
use Rattle.sound.specs.Values.{channel_of}

-- Of a stereo value, and of a channel.
abbrev pub sixths_of : ℕ → Sixths
sixths_of stereo = record { left = left_of stereo; right = right_of stereo }

abbrev pub sixths_at : Registers → ℕ → Sixths
sixths_at g channel = sixths_of (stereo_of g channel)

-- What a table has of a channel.
abbrev pub in_table : List Sixths → ℕ → Sixths
in_table table channel = slice_index_or table channel (record { left = 0; right = 0 })

abbrev pub left_in : List Sixths → ℕ → ℕ
left_in table channel = (in_table table channel).left

abbrev pub right_in : List Sixths → ℕ → ℕ
right_in table channel = (in_table table channel).right

-- Of eleven channels, counted on past 7, what a record's stereo values give; so
abbrev pub SixthsOf : Registers → List Sixths → Type 0
SixthsOf g table = (channel : ℕ) → channel < 11 → in_table table channel ≡ sixths_at g channel

-- 7 sixths or fewer,
abbrev pub Few : List Sixths → Type 0
Few table = (channel : ℕ) → channel < 11 → (left_in table channel ≤ 7) × (right_in table channel ≤ 7)

-- and what channels 8 to 10 have is what 0 to 2 have.
abbrev pub Again : List Sixths → Type 0
Again table = (channel : ℕ) → channel < 11 → in_table table channel ≡ in_table table (channel_of channel)
