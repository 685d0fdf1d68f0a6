-- A plate file as the printer judges it: 15, 14, then its register words loaded and checked, and 11 for its lists. Sound is not judged here.
use Rattle.std.specs.Prelude.{ℕ, List, [], ◌∷◌, ◌++◌}
use Rattle.refusals.specs.Table.{Told, Row, row, judged}
use Rattle.registers.specs.Record.{fresh}
use Rattle.registers.specs.Setting.{setting_of}
use Rattle.registers.specs.Accept.{accept_table}
use Rattle.registers.specs.declared.setting.Setting.{Setting}
use Rattle.sheets.specs.Sheet.{register_words, registers_of, video_list, cursor_list}
use Rattle.sheets.specs.Input.{input_table}
use Rattle.cells.specs.Picture.{words_wrong}

abbrev pub sheet_table : List ℕ → List Row
sheet_table file =
    input_table file
    ++ (accept_table fresh (register_words file) ++ (row 11 (words_wrong (setting_of (registers_of file)) (video_list file) (cursor_list file)) 0 ∷ []))

unfoldable pub sheet_told : List ℕ → Told Setting
sheet_told file = judged (sheet_table file) (setting_of (registers_of file))
