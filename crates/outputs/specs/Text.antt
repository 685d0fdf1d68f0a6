-- The printer's text: the head and a line for each raster, or one line that refuses.
use Rattle.std.specs.Prelude.{ℕ, zero, suc, ◌+◌, ◌-◌, List, [], ◌∷◌, ◌++◌, length, eqb, leb}
use Rattle.buffers.specs.Pick.{pick}
use Rattle.buffers.specs.Values.{values_from}
use Rattle.refusals.specs.Table.{Why, Told, given, refused}
use Rattle.registers.specs.declared.record.Registers.{Registers}
use Rattle.registers.specs.declared.setting.Setting.{Setting}
use Rattle.cells.specs.Picture.{picture_told}
use Rattle.frame.specs.Frame.{raster_cell}
use Rattle.marks.specs.Marks.{marks_of}
use Rattle.outputs.specs.Decimal.{decimal}
use Rattle.outputs.specs.Runs.{line_of}
use Rattle.sheets.specs.Sheet.{registers_of, video_list, cursor_list}
use Rattle.outputs.specs.Sheet.{sheet_told}

-- A number behind some letters.
unfoldable pub labelled : List ℕ → ℕ → List ℕ
labelled label n = label ++ decimal n

-- Two numbers with a space between, behind some letters and before others.
unfoldable pub pair_line : List ℕ → ℕ → ℕ → List ℕ → List ℕ
pair_line label a b end = labelled label a ++ (labelled (32 ∷ []) b ++ end)

-- `refused`, number, detail.
abbrev pub refused_line : Why → List ℕ
refused_line w = pair_line (114 ∷ 101 ∷ 102 ∷ 117 ∷ 115 ∷ 101 ∷ 100 ∷ 32 ∷ []) w.number w.detail (10 ∷ [])

-- `frame N V words W marks M`.
unfoldable pub head_line : ℕ → ℕ → ℕ → ℕ → List ℕ
head_line n v w m =
    labelled (102 ∷ 114 ∷ 97 ∷ 109 ∷ 101 ∷ 32 ∷ []) n
    ++ (labelled (32 ∷ []) v
    ++ (labelled (32 ∷ 119 ∷ 111 ∷ 114 ∷ 100 ∷ 115 ∷ 32 ∷ []) w
    ++ (labelled (32 ∷ 109 ∷ 97 ∷ 114 ∷ 107 ∷ 115 ∷ 32 ∷ []) m ++ (10 ∷ []))))

-- The line of raster y.
unfoldable pub raster_line : Registers → Setting → List ℕ → List ℕ → ℕ → List ℕ
raster_line g s video cursor y = line_of (values_from (raster_cell g s video cursor y) 0 s.n.0)

-- The head of a picture: the marks are those of threshold 128.
unfoldable pub picture_head : Registers → Setting → List ℕ → List ℕ → List ℕ
picture_head g s video cursor = head_line s.n.0 s.v.0 (length video) (marks_of g s video cursor 128)

-- Line k of a picture: 0 is the head; then one for each raster; none after them.
unfoldable pub picture_line : Registers → Setting → List ℕ → List ℕ → ℕ → List ℕ
picture_line g s video cursor k =
    pick (eqb k 0) (picture_head g s video cursor)
    (pick (leb k s.v.0) (raster_line g s video cursor (k - 1)) [])

-- Line k of what is told of a picture; a refusal is one line.
abbrev pub line_by : Registers → List ℕ → List ℕ → Told Setting → ℕ → List ℕ
line_by g video cursor (given s) k = picture_line g s video cursor k
line_by g video cursor (refused w) k = pick (eqb k 0) (refused_line w) []

-- How many lines there are, and the whole text: they stand one after the other.
abbrev pub lines_for : Told Setting → ℕ
lines_for (given s) = 1 + s.v.0
lines_for (refused w) = 1

unfoldable pub first_lines : Registers → List ℕ → List ℕ → Told Setting → ℕ → List ℕ
first_lines g video cursor told zero = []
first_lines g video cursor told (suc n) = first_lines g video cursor told n ++ line_by g video cursor told n

unfoldable pub text_by : Registers → List ℕ → List ℕ → Told Setting → List ℕ
text_by g video cursor told = first_lines g video cursor told (lines_for told)

-- A line, and the text, of a record and its lists.
unfoldable pub line_at : Registers → List ℕ → List ℕ → ℕ → List ℕ
line_at g video cursor k = line_by g video cursor (picture_told g video cursor) k

unfoldable pub picture_text : Registers → List ℕ → List ℕ → List ℕ
picture_text g video cursor = text_by g video cursor (picture_told g video cursor)

-- The text of a plate file: of its own record and lists, by the printer's order.
unfoldable pub text_of : List ℕ → List ℕ
text_of file = text_by (registers_of file) (video_list file) (cursor_list file) (sheet_told file)
