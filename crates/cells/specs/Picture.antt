-- What every picture call judges first: the setting, then 11.
use Rattle.std.specs.Prelude.{ℕ, Bool, ◌||◌, not, List, [], ◌∷◌, ◌++◌, length, eqb}
use Rattle.refusals.specs.Table.{Told, Row, row, judged}
use Rattle.registers.specs.Setting.{setting_of, video_words, cursor_words}
use Rattle.registers.specs.Check.{setting_table}
use Rattle.registers.specs.declared.record.Registers.{Registers}
use Rattle.registers.specs.declared.setting.Setting.{Setting}

-- 11: video or cursor word count wrong.
abbrev pub video_wrong : Setting → List ℕ → Bool
video_wrong s video = not (eqb (length video) (video_words s))

abbrev pub words_wrong : Setting → List ℕ → List ℕ → Bool
words_wrong s video cursor = video_wrong s video || not (eqb (length cursor) (cursor_words s))

abbrev pub picture_table : Registers → List ℕ → List ℕ → List Row
picture_table g video cursor = setting_table g ++ (row 11 (words_wrong (setting_of g) video cursor) 0 ∷ [])

-- Not refused, a picture has its setting.
unfoldable pub picture_told : Registers → List ℕ → List ℕ → Told Setting
picture_told g video cursor = judged (picture_table g video cursor) (setting_of g)
