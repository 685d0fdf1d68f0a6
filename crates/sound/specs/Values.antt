-- The values of bytes in turn, left before right; the counter, which has 32 bits, says each byte's channel.
use Rattle.std.specs.Prelude.{ℕ, ◌+◌, ◌%◌, ◌^◌, List, [], ◌∷◌, ℤ}
use Rattle.sound.specs.Amplitude.{value_of}

abbrev pub channel_of : ℕ → ℕ
channel_of counter = counter % 8

abbrev pub counter_after : ℕ → ℕ → ℕ
counter_after counter bytes = (counter + bytes) % 2 ^ 32

-- The values of bytes in order, where `left` and `right` give a channel's sixths.
unfoldable pub values_of : (ℕ → ℕ) → (ℕ → ℕ) → ℕ → List ℕ → List ℤ
values_of left right counter [] = []
values_of left right counter (byte ∷ bytes) =
    value_of byte (left (channel_of counter)) ∷ value_of byte (right (channel_of counter)) ∷ values_of left right (counter_after counter 1) bytes
