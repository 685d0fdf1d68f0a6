-- The small plate's file has 140 bytes, and its text by the text's own definition is the paper's seven lines. All is computed, in steps: the lists are
-- those that the file was made of, the setting is accepted, the marks are counted, and each raster's codes stand in the runs that its line tells.
use Prim.Native.Nat.{ℕ, suc}
use mathlib.Core.Path.{◌≡◌, refl, ◌∙◌, ap}
use mathlib.Core.List.{List, [], ◌∷◌, ◌++◌, map}
use lib.ListN.{length}
use Rattle.buffers.specs.Words.{bytes_of, words_of}
use Rattle.buffers.specs.Values.{values_from}
use Rattle.refusals.specs.Table.{given}
use Rattle.registers.specs.Record.{reserved, fresh, stored_of}
use Rattle.registers.specs.Load.{leading, applied}
use Rattle.registers.specs.Lowest.{lowest}
use Rattle.registers.specs.Setting.{setting_of, video_words, cursor_words}
use Rattle.registers.specs.Accept.{accept_told}
use Rattle.registers.specs.Small.{small_words, small_registers}
use Rattle.registers.specs.declared.setting.Setting.{Setting}
use Rattle.cells.specs.Pixel.{pixel}
use Rattle.cells.specs.Cell.{plain_code, covered, code, cell}
use Rattle.cells.specs.Picture.{picture_told}
use Rattle.frame.specs.Frame.{frame_cell, raster_cell}
use Rattle.marks.specs.Count.{total}
use Rattle.marks.specs.Marks.{marks_of}
use Rattle.plates.specs.Plate.{plate_of}
use Rattle.outputs.specs.Decimal.{digits, decimal}
use Rattle.colours.specs.Cells.{cell_code}
use Rattle.outputs.specs.Runs.{run}
use Rattle.sheets.specs.Sheet.{register_words, video_list, cursor_list, registers_of}
use Rattle.sheets.specs.Input.{input_told}
use Rattle.outputs.specs.Sheet.{sheet_told}
use Rattle.outputs.specs.Text.{labelled, head_line, raster_line, picture_head, picture_line, first_lines, text_by, text_of}
use Rattle.outputs.proofs.Sheets.{sheet_accepted}
use Rattle.outputs.proofs.Spread.{Codes, ◌of◌, spread, Apart, runs_text, line_spread}
use Rattle.claims.specs.Marked.{small_video}
use Rattle.claims.specs.SmallText.{small_plate, small_text, bytes}

pub small_length : length small_plate ≡ 140
unfolding plate_of bytes_of
small_length = refl

-- The plate's lists are those that it was made of.
registers_back : register_words small_plate ≡ small_words
unfolding plate_of bytes_of words_of register_words
registers_back = refl

video_back : video_list small_plate ≡ small_video
unfolding plate_of bytes_of words_of video_list
video_back = refl

cursor_back : cursor_list small_plate ≡ []
unfolding plate_of bytes_of words_of cursor_list
cursor_back = refl

abbrev small : Setting
small = setting_of small_registers

small_picture : picture_told small_registers small_video [] ≡ given small
unfolding reserved stored_of applied lowest setting_of video_words cursor_words picture_told
small_picture = refl

small_taken : input_told small_plate ≡ given tt
unfolding plate_of bytes_of words_of input_told
small_taken = refl

small_accepted : accept_told fresh small_words ≡ given small
unfolding reserved stored_of applied leading lowest setting_of accept_told
small_accepted = refl

small_registers_holds : registers_of small_plate ≡ small_registers
unfolding registers_of
small_registers_holds = ap (applied fresh) registers_back

small_told : sheet_told small_plate ≡ given small
small_told =
    sheet_accepted small_plate small_taken small (ap (accept_told fresh) registers_back ∙ small_accepted)
    ∙ rw (small_registers_holds, video_back, cursor_back) small_picture

-- The head: no cell of the frame is a mark.
head : picture_head small_registers small small_video [] ≡ bytes "frame 32 6 words 1 marks 0\n"
unfolding reserved stored_of applied lowest setting_of pixel plain_code covered code cell frame_cell total marks_of digits decimal labelled
    head_line picture_head
head = refl

-- A raster's line, from its codes in runs.
raster : (y : ℕ) (r : Codes) (rs : List Codes) → map cell_code (values_from (raster_cell small_registers small small_video [] y) 0 32) ≡ spread (r ∷ rs)
    → Apart r.code rs → raster_line small_registers small small_video [] y ≡ runs_text r.code (suc r.more) rs ++ (10 ∷ [])
unfolding reserved stored_of applied setting_of raster_line
raster y r rs e a = line_spread (values_from (raster_cell small_registers small small_video [] y) 0 32) r rs e a

rasters :
    (raster_line small_registers small small_video [] 0 ≡ bytes "3x4 2x28\n")
    × (raster_line small_registers small small_video [] 1 ≡ bytes "1x4 0x28\n")
    × (raster_line small_registers small small_video [] 2 ≡ bytes "1x4 0x3 4x16 0x9\n")
    × (raster_line small_registers small small_video [] 3 ≡ bytes "1x4 0x3 4x4 5x8 4x4 0x9\n")
    × (raster_line small_registers small small_video [] 4 ≡ bytes "1x4 0x3 4x16 0x9\n")
    × (raster_line small_registers small small_video [] 5 ≡ bytes "1x4 0x28\n")
unfolding reserved stored_of applied setting_of pixel plain_code covered code cell raster_cell values_from lowest digits decimal run
rasters = (
  raster 0 (4 of 3) ((28 of 2) ∷ []) refl (refl, tt),
  raster 1 (4 of 1) ((28 of 0) ∷ []) refl (refl, tt),
  raster 2 (4 of 1) ((3 of 0) ∷ (16 of 4) ∷ (9 of 0) ∷ []) refl (refl, (refl, (refl, tt))),
  raster 3 (4 of 1) ((3 of 0) ∷ (4 of 4) ∷ (8 of 5) ∷ (4 of 4) ∷ (9 of 0) ∷ []) refl (refl, (refl, (refl, (refl, (refl, tt))))),
  raster 4 (4 of 1) ((3 of 0) ∷ (16 of 4) ∷ (9 of 0) ∷ []) refl (refl, (refl, (refl, tt))),
  raster 5 (4 of 1) ((28 of 0) ∷ []) refl (refl, tt),
)

-- The lines of the picture.
lines :
    (picture_line small_registers small small_video [] 0 ≡ bytes "frame 32 6 words 1 marks 0\n")
    × (picture_line small_registers small small_video [] 1 ≡ bytes "3x4 2x28\n")
    × (picture_line small_registers small small_video [] 2 ≡ bytes "1x4 0x28\n")
    × (picture_line small_registers small small_video [] 3 ≡ bytes "1x4 0x3 4x16 0x9\n")
    × (picture_line small_registers small small_video [] 4 ≡ bytes "1x4 0x3 4x4 5x8 4x4 0x9\n")
    × (picture_line small_registers small small_video [] 5 ≡ bytes "1x4 0x3 4x16 0x9\n")
    × (picture_line small_registers small small_video [] 6 ≡ bytes "1x4 0x28\n")
unfolding reserved stored_of applied setting_of picture_line
lines = (head, rasters.0, rasters.1, rasters.2, rasters.3, rasters.4, rasters.5)

pub small_text_holds : text_of small_plate ≡ small_text
unfolding reserved stored_of applied setting_of first_lines text_by text_of
small_text_holds =
    rw (small_told, small_registers_holds, video_back, cursor_back, lines.0, lines.1, lines.2, lines.3, lines.4, lines.5, lines.6)
