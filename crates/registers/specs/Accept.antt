-- Loading a list and checking the record that it leaves, in one table: 1, 2, then the setting's rows of the loaded record; or, for sound, its rows.
use Rattle.std.specs.Prelude.{ℕ, List, ◌++◌}
use Rattle.refusals.specs.Table.{Told, Row, judged, unless_refused}
use Rattle.registers.specs.Load.{applied, load_table}
use Rattle.registers.specs.Setting.{setting_of}
use Rattle.registers.specs.Check.{setting_table}
use Rattle.registers.specs.Sound.{sound_table}
use Rattle.registers.specs.declared.record.Registers.{Registers}
use Rattle.registers.specs.declared.setting.Setting.{Setting}

abbrev pub accept_table : Registers → List ℕ → List Row
accept_table g words = load_table words ++ setting_table (applied g words)

-- The setting of the loaded record, or the first refusal.
unfoldable pub accept_told : Registers → List ℕ → Told Setting
accept_told g words = judged (accept_table g words) (setting_of (applied g words))

-- For sound alone: the picture's rules play no part.
abbrev pub accept_sound_table : Registers → List ℕ → List Row
accept_sound_table g words = load_table words ++ sound_table (applied g words)

unfoldable pub accept_sound_told : Registers → List ℕ → Told (Unit {0})
accept_sound_told g words = judged (accept_sound_table g words) tt

-- The record handed back: with every word applied, or on a refusal as it was given.
abbrev pub handed_back : {A : Type 0} → Told A → Registers → List ℕ → Registers
handed_back told g words = unless_refused told g (applied g words)
