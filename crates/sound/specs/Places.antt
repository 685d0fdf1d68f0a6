-- What stands at every place of the lent memory after sound was played.
use Rattle.std.specs.Prelude.{◌≡◌, ℕ, ◌+◌, ◌*◌, ◌<◌, ◌≤◌, List, length, ℤ, pos, slice_index_or, unsigned_abs}
use Rattle.buffers.specs.Words.{byte_of}
use Rattle.registers.specs.declared.record.Registers.{Registers}
use Rattle.sound.specs.Amplitude.{value_of}
use Rattle.sound.specs.Sixths.{left_at, right_at}
use Rattle.sound.specs.Values.{channel_of, counter_after}

-- After a call that is not refused, by place: byte k leaves its word low first, at the channel of the counter before it.
pub record EveryPlace (g : Registers) (words : List ℕ) (counter : ℕ) (out after : List ℤ) : Type 0 where
  pub left_place :
      (k : ℕ) → k < 4 * length words
      → slice_index_or after (2 * k) (pos 0) ≡ value_of (byte_of words k) (left_at g (channel_of (counter_after counter k)))
  pub right_place :
      (k : ℕ) → k < 4 * length words
      → slice_index_or after (2 * k + 1) (pos 0) ≡ value_of (byte_of words k) (right_at g (channel_of (counter_after counter k)))
  pub within : (i : ℕ) → i < 8 * length words → unsigned_abs (slice_index_or after i (pos 0)) ≤ 23712
  pub beyond : (i : ℕ) → 8 * length words ≤ i → slice_index_or after i (pos 0) ≡ slice_index_or out i (pos 0)
  pub long : length after ≡ length out
