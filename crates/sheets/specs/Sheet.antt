-- A plate file taken apart: its four lists, where they stand among all its words, and the record that its register words leave.
use Rattle.std.specs.Prelude.{ℕ, ◌-◌, List, take, drop}
use Rattle.refusals.specs.Table.{Told, judged}
use Rattle.registers.specs.Record.{fresh}
use Rattle.registers.specs.Load.{applied}
use Rattle.registers.specs.declared.record.Registers.{Registers}
use Rattle.plates.specs.Plate.{r_of, v_of, c_of, s_of}
use Rattle.plates.specs.Read.{copy_table, copied}
use Rattle.sheets.specs.declared.Parts.{Parts}

-- The words from one place up to another.
abbrev pub part : List ℕ → ℕ → ℕ → List ℕ
part words from to = take (to - from) (drop from words)

-- The four lists: each section's words, from its start up to the next one's.
unfoldable pub register_words : List ℕ → List ℕ
register_words file = part (copied file) 0 (r_of file - v_of file)

unfoldable pub video_list : List ℕ → List ℕ
video_list file = part (copied file) (r_of file - v_of file) (r_of file - c_of file)

unfoldable pub cursor_list : List ℕ → List ℕ
cursor_list file = part (copied file) (r_of file - c_of file) (r_of file - s_of file)

unfoldable pub sound_list : List ℕ → List ℕ
sound_list file = part (copied file) (r_of file - s_of file) (r_of file)

-- A plate starts from a fresh record.
unfoldable pub registers_of : List ℕ → Registers
registers_of file = applied fresh (register_words file)

-- Where the video, cursor and sound words start among all its words, and where they end.
abbrev pub parts_of : List ℕ → Parts
parts_of file =
    record {
      video = r_of file - v_of file;
      cursor = r_of file - c_of file;
      sound = r_of file - s_of file;
      end = r_of file;
    }

-- Taken apart into a list of some places: 14 and 13, as its words are copied out.
unfoldable pub take_told : List ℕ → ℕ → Told Parts
take_told file places = judged (copy_table file places) (parts_of file)
