-- The mark count for a threshold: the number of code 5 cells of the frame whose grey is at or above it.
use Rattle.std.specs.Prelude.{ℕ, Bool, ◌&&◌, List, leb, eqb}
use Rattle.refusals.specs.Table.{Told, judged}
use Rattle.registers.specs.Setting.{setting_of}
use Rattle.registers.specs.declared.record.Registers.{Registers}
use Rattle.registers.specs.declared.setting.Setting.{Setting}
use Rattle.colours.specs.Grey.{grey_of}
use Rattle.colours.specs.Cells.{cell_code, cell_colour}
use Rattle.cells.specs.Picture.{picture_table}
use Rattle.frame.specs.Frame.{cells, frame_cell}
use Rattle.marks.specs.Count.{count_below}

-- A cell of code 5 whose grey is not below the threshold.
abbrev pub is_mark : ℕ → ℕ → Bool
is_mark threshold cell = eqb (cell_code cell) 5 && leb threshold (grey_of (cell_colour cell))

-- Whether the cell at place k of the frame is a mark.
abbrev pub mark_at : Registers → Setting → List ℕ → List ℕ → ℕ → ℕ → Bool
mark_at g s video cursor threshold k = is_mark threshold (frame_cell g s video cursor k)

unfoldable pub marks_of : Registers → Setting → List ℕ → List ℕ → ℕ → ℕ
marks_of g s video cursor threshold = count_below (mark_at g s video cursor threshold) (cells s)

-- Refusals: the picture's.
unfoldable pub marks_told : Registers → List ℕ → List ℕ → ℕ → Told ℕ
marks_told g video cursor threshold = judged (picture_table g video cursor) (marks_of g (setting_of g) video cursor threshold)
