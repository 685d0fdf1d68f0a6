-- The words of one displayed raster: that stretch of the caller's own list.
use Rattle.std.specs.Prelude.{ℕ, ◌+◌, ◌*◌, ◌≡◌, Bool, ◌&&◌, List, [], ◌∷◌, ◌++◌, leb, take, drop}
use Rattle.std.specs.Borrow.{Bor}
use Rattle.buffers.specs.Pick.{pick}
use Rattle.refusals.specs.Table.{Told, given, refused, Row, row, judged, and_then}
use Rattle.registers.specs.Setting.{setting_of, display_on, raster_words}
use Rattle.registers.specs.Check.{setting_table}
use Rattle.registers.specs.declared.record.Registers.{Registers}
use Rattle.registers.specs.declared.setting.Setting.{Setting}
use Rattle.cells.specs.Cell.{within}
use Rattle.cells.specs.Pixel.{first_word}
use Rattle.cells.specs.Picture.{video_wrong}
use Rattle.stretch.specs.declared.found.Stretch.{Stretch}

-- Raster y is displayed: the display is on, and y is in it.
abbrev pub is_displayed : Setting → ℕ → Bool
is_displayed s y = display_on s && within s.vds.0 s.vde.0 y

abbrev pub none : Stretch
none = record { start = 0; count = 0 }

-- Nothing is skipped between rasters. An undisplayed raster has no words.
unfoldable pub stretch_of : Setting → ℕ → Stretch
stretch_of s y = pick (is_displayed s y) (record { start = first_word s y; count = raster_words s }) none

-- Refusals: the setting's, then 11 for the video count alone, 12.
abbrev pub raster_rows : Setting → List ℕ → ℕ → List Row
raster_rows s video y =
    row 11 (video_wrong s video) 0
    ∷ row 12 (leb s.v.0 y) 0
    ∷ []

abbrev pub stretch_table : Registers → List ℕ → ℕ → List Row
stretch_table g video y = setting_table g ++ raster_rows (setting_of g) video y

unfoldable pub stretch_told : Registers → List ℕ → ℕ → Told Stretch
stretch_told g video y = judged (stretch_table g video y) (stretch_of (setting_of g) y)

-- The stretch itself, empty where the call is refused.
abbrev pub words_told : List ℕ → Told Stretch → List ℕ
words_told video (given p) = take p.count (drop p.start video)
words_told video (refused w) = []

-- The word that it starts at; the list's first where there is no stretch.
abbrev pub start_told : Told Stretch → ℕ
start_told (given p) = p.start
start_told (refused w) = 0

-- A part of a lent list is a stretch of it: it reads the stretch's words, in the list's own memory, 4 bytes on for each word before them.
pub record PartOf (list part : Bor (List ℕ)) (t : Told Stretch) : Type 0 where
  pub words : part.now ≡ words_told list.now t
  pub memory : part.ref_ptr.0 ≡ list.ref_ptr.0
  pub place : part.ref_ptr.1 ≡ list.ref_ptr.1 + 4 * start_told t

-- And the refusal, or none.
abbrev pub answer_told : Told Stretch → Told (Unit {0})
answer_told t = and_then t (λ p. given tt)
