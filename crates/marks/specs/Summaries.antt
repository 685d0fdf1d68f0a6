-- Marks per raster: of each displayed raster its mark count, and its least and greatest grey over code 5 cells. Made afresh, and kept
-- where one video word is replaced.
use Rattle.std.specs.Prelude.{ℕ, ◌+◌, ◌*◌, ◌-◌, ◌/◌, ◌%◌, Bool, List, [], ◌∷◌, ◌++◌, length, set, ltb, leb, eqb}
use Rattle.buffers.specs.Pick.{pick}
use Rattle.buffers.specs.Painted.{painted}
use Rattle.refusals.specs.Table.{Told, Row, row, judged, unless_refused}
use Rattle.registers.specs.Setting.{setting_of, raster_words}
use Rattle.registers.specs.declared.record.Registers.{Registers}
use Rattle.registers.specs.declared.setting.Setting.{Setting}
use Rattle.colours.specs.Grey.{grey_of}
use Rattle.colours.specs.Cells.{cell_code, cell_colour}
use Rattle.cells.specs.Cell.{cell}
use Rattle.cells.specs.Picture.{picture_table}
use Rattle.marks.specs.Count.{count_below}
use Rattle.marks.specs.Extremes.{least_of, greatest_of}
use Rattle.marks.specs.Marks.{is_mark}
use Rattle.marks.specs.declared.entry.Entry.{Entry}

-- The grey of a code 5 cell; of any other cell a number that is said beside it.
abbrev pub grey_or : ℕ → ℕ → ℕ
grey_or none cell = pick (eqb (cell_code cell) 5) (grey_of (cell_colour cell)) none

-- Over the N cells of raster y: how many are marks, the least and the greatest grey.
abbrev pub is_mark_in : Registers → Setting → List ℕ → List ℕ → ℕ → ℕ → ℕ → Bool
is_mark_in g s video cursor threshold y x = is_mark threshold (cell g s video cursor x y)

abbrev pub grey_in : Registers → Setting → List ℕ → List ℕ → ℕ → ℕ → ℕ → ℕ
grey_in g s video cursor none y x = grey_or none (cell g s video cursor x y)

unfoldable pub raster_marks : Registers → Setting → List ℕ → List ℕ → ℕ → ℕ → ℕ
raster_marks g s video cursor threshold y = count_below (is_mark_in g s video cursor threshold y) s.n.0

unfoldable pub least_grey : Registers → Setting → List ℕ → List ℕ → ℕ → ℕ
least_grey g s video cursor y = least_of (grey_in g s video cursor 255 y) s.n.0

unfoldable pub greatest_grey : Registers → Setting → List ℕ → List ℕ → ℕ → ℕ
greatest_grey g s video cursor y = greatest_of (grey_in g s video cursor 0 y) s.n.0

-- The entry of raster y, and its three numbers in order.
unfoldable pub entry_of : Registers → Setting → List ℕ → List ℕ → ℕ → ℕ → Entry
entry_of g s video cursor threshold y =
    record {
      count = raster_marks g s video cursor threshold y;
      least = least_grey g s video cursor y;
      greatest = greatest_grey g s video cursor y;
    }

abbrev pub number_of : Entry → ℕ → ℕ
number_of e j = pick (eqb j 0) e.count (pick (eqb j 1) e.least e.greatest)

-- Rasters VDS to VDE-1 are displayed, none where the display is off; each has three numbers, one entry after another.
abbrev pub displayed_rasters : Setting → ℕ
displayed_rasters s = s.vde.0 - s.vds.0

abbrev pub entries_length : Setting → ℕ
entries_length s = 3 * displayed_rasters s

unfoldable pub entry_number : Registers → Setting → List ℕ → List ℕ → ℕ → ℕ → ℕ
entry_number g s video cursor threshold k = number_of (entry_of g s video cursor threshold (s.vds.0 + k / 3)) (k % 3)

-- Made afresh. Refusals: the picture's, then 13.
abbrev pub summaries_table : Registers → List ℕ → List ℕ → ℕ → List Row
summaries_table g video cursor room = picture_table g video cursor ++ (row 13 (ltb room (entries_length (setting_of g))) 0 ∷ [])

unfoldable pub summaries_told : Registers → List ℕ → List ℕ → ℕ → Told (Unit {0})
summaries_told g video cursor room = judged (summaries_table g video cursor room) tt

-- What the lent numbers hold after the call.
unfoldable pub summaries_leaves : Registers → List ℕ → List ℕ → ℕ → List ℕ → List ℕ
summaries_leaves g video cursor threshold out =
    unless_refused (summaries_told g video cursor (length out)) out
    (painted out 0 (entries_length (setting_of g)) (entry_number g (setting_of g) video cursor threshold))

-- One word replaced. Refusals: the picture's, 18 for an index outside the list, 13.
abbrev pub replace_table : Registers → List ℕ → List ℕ → ℕ → ℕ → List Row
replace_table g video cursor index room =
    picture_table g video cursor
    ++ (row 18 (leb (length video) index) 0
    ∷ row 13 (ltb room (entries_length (setting_of g))) 0
    ∷ [])

unfoldable pub replace_told : Registers → List ℕ → List ℕ → ℕ → ℕ → Told (Unit {0})
replace_told g video cursor index room = judged (replace_table g video cursor index room) tt

-- What the video list holds after the call: the word in its place.
unfoldable pub video_leaves : Registers → List ℕ → List ℕ → ℕ → ℕ → ℕ → List ℕ
video_leaves g video cursor index word room = unless_refused (replace_told g video cursor index room) video (set video index word)

-- The displayed raster that a word belongs to, counted from VDS: nothing is skipped between rasters.
abbrev pub raster_of : Setting → ℕ → ℕ
raster_of s index = index / raster_words s

-- And what the lent numbers hold: that raster's are those made afresh from the new list.
unfoldable pub replace_leaves : Registers → List ℕ → List ℕ → ℕ → ℕ → ℕ → List ℕ → List ℕ
replace_leaves g video cursor threshold index word out =
    unless_refused (replace_told g video cursor index (length out)) out
    (painted out (3 * raster_of (setting_of g) index) (3 * raster_of (setting_of g) index + 3)
    (entry_number g (setting_of g) (set video index word) cursor threshold))
