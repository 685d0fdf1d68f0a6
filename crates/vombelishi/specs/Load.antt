-- Loading in C: 13 for what is no record, then the refusals of a list, or of a word. Each word is stored in both lists; no other register is touched.
use Rattle.std.specs.Prelude.{ℕ, List, [], ◌∷◌, set}
use Rattle.refusals.specs.Table.{Told, given, and_then, unless_refused}
use Rattle.registers.specs.Record.{slot_of, data_of, word_told}
use Rattle.registers.specs.Accept.{accept_told, accept_sound_told}
use Rattle.registers.specs.declared.setting.Setting.{Setting}
use Rattle.vombelishi.specs.Code.{with_room}
use Rattle.vombelishi.specs.Record.{record_told}
use Rattle.vombelishi.specs.Settings.{numbers_of}

-- The register that a word names holds its data, and its flag is 1.
abbrev pub value_stored : List ℕ → ℕ → List ℕ
value_stored values word = set values (slot_of word) (data_of word)

abbrev pub flag_stored : List ℕ → ℕ → List ℕ
flag_stored written word = set written (slot_of word) 1

-- The words stored in order, the last write counts.
unfoldable pub values_stored : List ℕ → List ℕ → List ℕ
values_stored values [] = values
values_stored values (w ∷ ws) = values_stored (value_stored values w) ws

unfoldable pub flags_stored : List ℕ → List ℕ → List ℕ
flags_stored written [] = written
flags_stored written (w ∷ ws) = flags_stored (flag_stored written w) ws

-- A list of words loaded and checked: the setting of the record that they leave,
unfoldable pub accepted_told : List ℕ → List ℕ → List ℕ → Told Setting
accepted_told values written words = and_then (record_told values written) (λ g. accept_told g words)

-- and its 21 numbers, or 13 where there is no room for them.
unfoldable pub accept_call : List ℕ → List ℕ → List ℕ → ℕ → Told (List ℕ)
accept_call values written words room = with_room 21 room (and_then (accepted_told values written words) (λ s. given (numbers_of s)))

unfoldable pub accept_values_leaves : List ℕ → List ℕ → List ℕ → ℕ → List ℕ
accept_values_leaves values written words room = unless_refused (accept_call values written words room) values (values_stored values words)

unfoldable pub accept_written_leaves : List ℕ → List ℕ → List ℕ → ℕ → List ℕ
accept_written_leaves values written words room = unless_refused (accept_call values written words room) written (flags_stored written words)

-- The same for sound alone.
unfoldable pub accept_sound_call : List ℕ → List ℕ → List ℕ → Told (Unit {0})
accept_sound_call values written words = and_then (record_told values written) (λ g. accept_sound_told g words)

unfoldable pub sound_values_leaves : List ℕ → List ℕ → List ℕ → List ℕ
sound_values_leaves values written words = unless_refused (accept_sound_call values written words) values (values_stored values words)

unfoldable pub sound_written_leaves : List ℕ → List ℕ → List ℕ → List ℕ
sound_written_leaves values written words = unless_refused (accept_sound_call values written words) written (flags_stored written words)

-- One word alone.
unfoldable pub word_call : List ℕ → List ℕ → ℕ → Told (Unit {0})
word_call values written word = and_then (record_told values written) (λ g. word_told word)

unfoldable pub word_values_leaves : List ℕ → List ℕ → ℕ → List ℕ
word_values_leaves values written word = unless_refused (word_call values written word) values (value_stored values word)

unfoldable pub word_written_leaves : List ℕ → List ℕ → ℕ → List ℕ
word_written_leaves values written word = unless_refused (word_call values written word) written (flag_stored written word)
