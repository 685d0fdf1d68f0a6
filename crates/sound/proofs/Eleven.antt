-- The table of eleven channels gives the values of its record.
use Rattle.std.proofs.Common.{◌≡◌, ℕ, List, [], ◌∷◌, refl, ap, arith}
use Rattle.buffers.specs.Words.{bytes_of}
use Rattle.registers.specs.declared.record.Registers.{Registers}
use Rattle.sound.specs.Amplitude.{value_of}
use Rattle.sound.specs.Sixths.{left_at, right_at}
use Rattle.sound.specs.Values.{channel_of, counter_after, values_of}
use Rattle.sound.specs.Play.{played_of}
use Rattle.sound.specs.declared.sixths.Sixths.{Sixths}
use Rattle.sound.specs.inner.Tables.{left_in, right_in, SixthsOf}

module _ (g : Registers) (table : List Sixths) (t : SixthsOf g table) where
  bytes_by : (counter : ℕ) (bytes : List ℕ) → values_of (left_in table) (right_in table) counter bytes ≡ values_of (left_at g) (right_at g) counter bytes
  unfolding values_of
  bytes_by counter [] = refl
  bytes_by counter (byte ∷ bytes) =
      let here = t (channel_of counter) (omega arith) in
      rw (
        ap (λ (s : Sixths). value_of byte s.left) here,
        ap (λ (s : Sixths). value_of byte s.right) here,
        bytes_by (counter_after counter 1) bytes,
      )

  pub values_by : (counter : ℕ) (words : List ℕ) → values_of (left_in table) (right_in table) counter (bytes_of words) ≡ played_of g counter words
  unfolding played_of
  values_by counter words = bytes_by counter (bytes_of words)
