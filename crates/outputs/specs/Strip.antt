-- A plate's picture as a binary PPM file: the head `P6`, N and V, 255, then red, green and blue of each cell of each raster.
use Rattle.std.specs.Prelude.{ℕ, zero, suc, ◌+◌, ◌-◌, List, [], ◌∷◌, ◌++◌, eqb, leb}
use Rattle.buffers.specs.Pick.{pick}
use Rattle.refusals.specs.Table.{Told, given, refused}
use Rattle.registers.specs.declared.record.Registers.{Registers}
use Rattle.registers.specs.declared.setting.Setting.{Setting}
use Rattle.frame.specs.Frame.{raster_cell}
use Rattle.pictures.specs.Colours.{guns_of}
use Rattle.sheets.specs.Sheet.{registers_of, video_list, cursor_list}
use Rattle.cells.specs.Picture.{picture_told}
use Rattle.outputs.specs.Sheet.{sheet_told}
use Rattle.outputs.specs.Text.{pair_line}
use Rattle.buffers.specs.Values.{values_from}

-- `P6`, a newline, N, a space, V, a newline, `255`, a newline.
abbrev pub strip_head : ℕ → ℕ → List ℕ
strip_head n v = pair_line (80 ∷ 54 ∷ 10 ∷ []) n v (10 ∷ 50 ∷ 53 ∷ 53 ∷ 10 ∷ [])

-- The bytes of raster y.
unfoldable pub raster_strip : Registers → Setting → List ℕ → List ℕ → ℕ → List ℕ
raster_strip g s video cursor y = guns_of (values_from (raster_cell g s video cursor y) 0 s.n.0)

-- Strip k of a picture: 0 is the head; then one for each raster; none after them.
unfoldable pub picture_strip : Registers → Setting → List ℕ → List ℕ → ℕ → List ℕ
picture_strip g s video cursor k =
    pick (eqb k 0) (strip_head s.n.0 s.v.0)
    (pick (leb k s.v.0) (raster_strip g s video cursor (k - 1)) [])

-- Strip k of what is told of a picture; a refusal has none.
abbrev pub strip_by : Registers → List ℕ → List ℕ → Told Setting → ℕ → List ℕ
strip_by g video cursor (given s) k = picture_strip g s video cursor k
strip_by g video cursor (refused w) k = []

-- How many strips there are; the whole file is the strips one after the other.
abbrev pub strips_for : Told Setting → ℕ
strips_for (given s) = 1 + s.v.0
strips_for (refused w) = 0

unfoldable pub first_strips : Registers → List ℕ → List ℕ → Told Setting → ℕ → List ℕ
first_strips g video cursor told zero = []
first_strips g video cursor told (suc n) = first_strips g video cursor told n ++ strip_by g video cursor told n

unfoldable pub picture_by : Registers → List ℕ → List ℕ → Told Setting → List ℕ
picture_by g video cursor told = first_strips g video cursor told (strips_for told)

-- A strip of a record and its lists.
unfoldable pub strip_at : Registers → List ℕ → List ℕ → ℕ → List ℕ
strip_at g video cursor k = strip_by g video cursor (picture_told g video cursor) k

-- The picture of a plate file: of its own record and lists, by the printer's order.
unfoldable pub picture_of : List ℕ → List ℕ
picture_of file = picture_by (registers_of file) (video_list file) (cursor_list file) (sheet_told file)
