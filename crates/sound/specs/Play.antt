-- The sound call: 3, 10, then 13; the values it writes, and the counter it answers.
use Rattle.std.specs.Prelude.{ℕ, ◌*◌, List, [], ◌∷◌, ◌++◌, length, ℤ, nat_lt}
use Rattle.std.proofs.lemmas.List.Edits.{sets}
use Rattle.buffers.specs.Words.{bytes_of}
use Rattle.refusals.specs.Table.{Told, Row, row, judged, unless_refused}
use Rattle.registers.specs.Sound.{sound_table}
use Rattle.registers.specs.declared.record.Registers.{Registers}
use Rattle.sound.specs.Sixths.{left_at, right_at}
use Rattle.sound.specs.Values.{counter_after, values_of}

-- Some words to be played into some places: 8 values for each word.
abbrev pub play_table : Registers → ℕ → ℕ → List Row
play_table g words places = sound_table g ++ (row 13 (nat_lt places (8 * words)) 0 ∷ [])

unfoldable pub play_told : Registers → ℕ → ℕ → Told (Unit {0})
play_told g words places = judged (play_table g words places) tt

-- Bytes leave words low first.
unfoldable pub played_of : Registers → ℕ → List ℕ → List ℤ
played_of g counter words = values_of (left_at g) (right_at g) counter (bytes_of words)

-- What the lent memory holds afterwards, and the counter answered: as they were, where the call is refused.
abbrev pub play_leaves : Registers → List ℕ → ℕ → List ℤ → List ℤ
play_leaves g words counter out = unless_refused (play_told g (length words) (length out)) out (sets out 0 (played_of g counter words))

abbrev pub play_counts : Registers → List ℕ → ℕ → List ℤ → ℕ
play_counts g words counter out = unless_refused (play_told g (length words) (length out)) counter (counter_after counter (4 * length words))
