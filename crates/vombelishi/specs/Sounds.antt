-- Sound in C: 13 for what is no record, then 3, 10 and 13. The counter is one lent cell, read before the first byte and written after the last.
use Rattle.std.specs.Prelude.{ℕ, ◌*◌, List, [], ◌∷◌, ℤ, length}
use Rattle.std.proofs.lemmas.List.Edits.{sets}
use Rattle.refusals.specs.Table.{Told, given, and_then, unless_refused}
use Rattle.sound.specs.Pair.{pair_told}
use Rattle.sound.specs.Play.{play_told, played_of}
use Rattle.sound.specs.Values.{counter_after}
use Rattle.vombelishi.specs.Code.{with_room}
use Rattle.vombelishi.specs.Record.{record_of, record_told}

-- Some words to be played into some places.
unfoldable pub sound_call : List ℕ → List ℕ → ℕ → ℕ → Told (Unit {0})
sound_call values written words places = and_then (record_told values written) (λ g. play_told g words places)

unfoldable pub sound_leaves : List ℕ → List ℕ → List ℕ → ℕ → List ℤ → List ℤ
sound_leaves values written words counter out =
    unless_refused (sound_call values written (length words) (length out)) out (sets out 0 (played_of (record_of values written) counter words))

-- The counter after the last byte, or as it came where the call is refused.
unfoldable pub counter_leaves : List ℕ → List ℕ → List ℕ → ℕ → ℕ → ℕ
counter_leaves values written words places counter =
    unless_refused (sound_call values written (length words) places) counter (counter_after counter (4 * length words))

-- One byte's pair.
unfoldable pub pair_call : ℕ → ℕ → ℕ → Told (List ℤ)
pair_call byte stereo room = with_room 2 room (and_then (pair_told byte stereo) (λ sides. given (sides.left ∷ sides.right ∷ [])))
