-- The frame and one raster of it: every place by the one cell rule; refusals: the picture's, then 12, 13 as far as they apply.
use Rattle.std.specs.Prelude.{ℕ, ◌*◌, ◌/◌, ◌%◌, List, [], ◌∷◌, ◌++◌, length, ltb, leb}
use Rattle.buffers.specs.Painted.{painted}
use Rattle.refusals.specs.Table.{Told, Row, row, judged, unless_refused}
use Rattle.registers.specs.Setting.{setting_of}
use Rattle.registers.specs.declared.record.Registers.{Registers}
use Rattle.registers.specs.declared.setting.Setting.{Setting}
use Rattle.cells.specs.Cell.{cell}
use Rattle.cells.specs.Picture.{picture_table}

-- How many cells a frame has.
abbrev pub cells : Setting → ℕ
cells s = s.n.0 * s.v.0

-- The cell at place k of a frame, raster after raster.
unfoldable pub frame_cell : Registers → Setting → List ℕ → List ℕ → ℕ → ℕ
frame_cell g s video cursor k = cell g s video cursor (k % s.n.0) (k / s.n.0)

abbrev pub frame_table : Registers → List ℕ → List ℕ → ℕ → List Row
frame_table g video cursor room = picture_table g video cursor ++ (row 13 (ltb room (cells (setting_of g))) 0 ∷ [])

unfoldable pub frame_told : Registers → List ℕ → List ℕ → ℕ → Told (Unit {0})
frame_told g video cursor room = judged (frame_table g video cursor room) tt

-- What the lent cells hold after the call.
unfoldable pub frame_leaves : Registers → List ℕ → List ℕ → List ℕ → List ℕ
frame_leaves g video cursor out =
    unless_refused (frame_told g video cursor (length out)) out
    (painted out 0 (cells (setting_of g)) (frame_cell g (setting_of g) video cursor))

-- One raster y.
unfoldable pub raster_cell : Registers → Setting → List ℕ → List ℕ → ℕ → ℕ → ℕ
raster_cell g s video cursor y x = cell g s video cursor x y

abbrev pub raster_table : Registers → List ℕ → List ℕ → ℕ → ℕ → List Row
raster_table g video cursor y room =
    picture_table g video cursor
    ++ (row 12 (leb (setting_of g).v.0 y) 0
    ∷ row 13 (ltb room (setting_of g).n.0) 0
    ∷ [])

unfoldable pub raster_told : Registers → List ℕ → List ℕ → ℕ → ℕ → Told (Unit {0})
raster_told g video cursor y room = judged (raster_table g video cursor y room) tt

unfoldable pub raster_leaves : Registers → List ℕ → List ℕ → ℕ → List ℕ → List ℕ
raster_leaves g video cursor y out =
    unless_refused (raster_told g video cursor y (length out)) out
    (painted out 0 (setting_of g).n.0 (raster_cell g (setting_of g) video cursor y))
