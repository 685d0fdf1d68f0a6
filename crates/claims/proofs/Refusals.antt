-- Demand 1: for each public call that can refuse, the numbers it can answer, exactly when, and in which order.
-- Each is said of every run that the call's own promise permits; refused, it leaves lent memory and records as they were.
use Prim.Native.Nat.{ℕ, ◌+◌, ◌*◌, ◌%◌}
use mathlib.Core.Path.{◌≡◌, refl, sym, ◌∙◌, ap}
use mathlib.Core.List.{List, [], ◌∷◌, ◌++◌}
use lib.ListN.{length, set}
use lib.Seq.{sets}
use Rattle.buffers.specs.Painted.{painted}
use Rattle.registers.specs.Record.{stored_of, word_table}
use Rattle.refusals.proofs.Tables.{judged_then}
use Rattle.registers.specs.Load.{applied}
use Rattle.registers.specs.Setting.{setting_of}
use Rattle.registers.specs.Accept.{accept_table, accept_told, accept_sound_table, accept_sound_told}
use Rattle.registers.specs.Sound.{sound_table}
use Rattle.registers.specs.declared.record.Registers.{Registers}
use Rattle.registers.proofs.Told.{sound_told_holds}
use Rattle.frame.specs.Frame.{cells, frame_cell, frame_leaves, raster_cell, raster_leaves, frame_table, raster_table}
use Rattle.cells.specs.Picture.{picture_table}
use Rattle.cells.proofs.Pictures.{picture_told_holds}
use Rattle.frame.proofs.Told.{frame_told_holds, raster_told_holds}
use Rattle.marks.proofs.Told.{marks_told_holds, summaries_told_holds, replace_told_holds}
use Rattle.stretch.proofs.Told.{stretch_told_holds}
use Rattle.mixing.specs.Mix.{mix_table, mix_leaves, mixed_at}
use Rattle.mixing.proofs.Calls.{mix_told_holds}
use Rattle.marks.specs.Marks.{marks_of}
use Rattle.marks.specs.Summaries.{entries_length, entry_number, raster_of, summaries_table, summaries_leaves}
use Rattle.marks.specs.Summaries.{replace_table, video_leaves, replace_leaves}
use Rattle.stretch.specs.Stretch.{stretch_of, stretch_table, stretch_told, answer_told}
use Rattle.stretch.specs.declared.found.Stretch.{Stretch}
use Rattle.sound.specs.Values.{counter_after}
use Rattle.sound.specs.Play.{played_of, play_table}
use Rattle.sound.specs.Pair.{sides_of, pair_table}
use Rattle.plates.specs.Plate.{sections_of, plate_of, plate_length}
use Rattle.plates.specs.Read.{copied, read_table, copy_table}
use Rattle.plates.specs.Write.{write_table}
use Rattle.sound.proofs.Told.{play_told_holds, pair_told_holds}
use Rattle.plates.proofs.Told.{read_told_holds, copy_told_holds, write_told_holds}
use Rattle.claims.specs.Calls.{Every, numbers, setting_numbers, ByTable, Kept}
use Rattle.claims.specs.Views as call
use Rattle.claims.specs.Views.{LoadRun, AcceptRun, PictureRun, FrameRun, RasterRun, MixRun, MarksRun, SummariesRun, ReplaceRun, StretchRun}
use Rattle.claims.specs.Views.{PlayRun, PairRun, CopyRun, WriteRun}
use Rattle.claims.proofs.Tables.{by_table, kept}

-- The numbers of each table, in its order.
pub load_word_numbers : (word : ℕ) → numbers (word_table word) ≡ 2 ∷ []
load_word_numbers word = refl

pub load_and_check_numbers : (g : Registers) (words : List ℕ) → numbers (accept_table g words) ≡ 1 ∷ 2 ∷ setting_numbers
load_and_check_numbers g words = refl

pub load_and_check_sound_numbers : (g : Registers) (words : List ℕ) → numbers (accept_sound_table g words) ≡ 1 ∷ 2 ∷ 3 ∷ 10 ∷ []
load_and_check_sound_numbers g words = refl

pub frame_numbers : (g : Registers) (video cursor : List ℕ) (room : ℕ) → numbers (frame_table g video cursor room) ≡ setting_numbers ++ (11 ∷ 13 ∷ [])
frame_numbers g video cursor room = refl

pub raster_numbers : (g : Registers) (video cursor : List ℕ) (y room : ℕ)
    → numbers (raster_table g video cursor y room) ≡ setting_numbers ++ (11 ∷ 12 ∷ 13 ∷ [])
raster_numbers g video cursor y room = refl

-- Judging a picture and counting its marks have one table.
pub picture_numbers : (g : Registers) (video cursor : List ℕ) → numbers (picture_table g video cursor) ≡ setting_numbers ++ (11 ∷ [])
picture_numbers g video cursor = refl

-- Marks per raster: 18 stands between 11 and 13.
pub summaries_numbers : (g : Registers) (video cursor : List ℕ) (room : ℕ)
    → numbers (summaries_table g video cursor room) ≡ setting_numbers ++ (11 ∷ 13 ∷ [])
summaries_numbers g video cursor room = refl

pub replace_numbers : (g : Registers) (video cursor : List ℕ) (index room : ℕ)
    → numbers (replace_table g video cursor index room) ≡ setting_numbers ++ (11 ∷ 18 ∷ 13 ∷ [])
replace_numbers g video cursor index room = refl

-- Mixing: 20 stands last.
pub mix_numbers : (g : Registers) (cells camera : List ℕ) (room : ℕ) → numbers (mix_table g cells camera room) ≡ setting_numbers ++ (13 ∷ 20 ∷ [])
mix_numbers g cells camera room = refl

pub raster_words_numbers : (g : Registers) (video : List ℕ) (y : ℕ) → numbers (stretch_table g video y) ≡ setting_numbers ++ (11 ∷ 12 ∷ [])
raster_words_numbers g video y = refl

pub check_sound_numbers : (g : Registers) → numbers (sound_table g) ≡ 3 ∷ 10 ∷ []
check_sound_numbers g = refl

pub play_numbers : (g : Registers) (words places : ℕ) → numbers (play_table g words places) ≡ 3 ∷ 10 ∷ 13 ∷ []
play_numbers g words places = refl

pub pair_numbers : (stereo : ℕ) → numbers (pair_table stereo) ≡ 10 ∷ []
pair_numbers stereo = refl

pub read_numbers : (file : List ℕ) → numbers (read_table file) ≡ 14 ∷ []
read_numbers file = refl

pub copy_out_numbers : (file : List ℕ) (places : ℕ) → numbers (copy_table file places) ≡ 14 ∷ 13 ∷ []
copy_out_numbers file places = refl

pub write_numbers : (rs vs cs ss : List ℕ) (places : ℕ) → numbers (write_table rs vs cs ss places) ≡ 15 ∷ 13 ∷ []
write_numbers rs vs cs ss places = refl

-- Loading one word.
pub load_word_refuses : Every call.load_word λ run.
    ByTable run.answer (word_table run.words) tt × Kept run.answer run.registers run.loaded
load_word_refuses κs a x s p =
    let run : LoadRun ℕ = (call.load_word).seen κs a x s in
    (by_table tt (word_table run.words) p.0, kept (stored_of run.registers run.words) p.0 p.1)

-- Loading a list and checking what it leaves.
pub load_and_check_refuses : Every call.load_and_check λ run.
    ByTable run.answer (accept_table run.registers run.words) (setting_of (applied run.registers run.words))
    × Kept run.answer run.registers run.handed
unfolding accept_told
load_and_check_refuses κs a x s p =
    let run : AcceptRun = (call.load_and_check).seen κs a x s in
    (by_table _ (accept_table run.registers run.words) p.0, kept (applied run.registers run.words) p.0 p.1)

pub load_and_check_sound_refuses : Every call.load_and_check_sound λ run.
    ByTable run.answer (accept_sound_table run.registers run.words) tt × Kept run.answer run.registers run.loaded
unfolding accept_sound_told
load_and_check_sound_refuses κs a x s p =
    let run : LoadRun (List ℕ) = (call.load_and_check_sound).seen κs a x s in
    (by_table tt (accept_sound_table run.registers run.words) p.0, kept (applied run.registers run.words) p.0 p.1)

-- Judging for sound.

pub check_sound_refuses : Every call.check_sound λ run. ByTable run.answer (sound_table run.registers) tt
check_sound_refuses κs a x s p = by_table tt _ (p ∙ sound_told_holds ((call.check_sound).seen κs a x s).registers)

-- Judging a picture; what is given is the setting.
pub judge_refuses : Every call.judge λ run.
    ByTable run.answer (picture_table run.registers run.video run.cursor) (setting_of run.registers)
judge_refuses κs a x s p =
    let run : PictureRun = (call.judge).seen κs a x s in
    by_table _ _ (p ∙ picture_told_holds run.registers run.video run.cursor)

-- Picture calls.
pub frame_refuses : Every call.frame λ run.
    ByTable run.answer (frame_table run.registers run.video run.cursor (length run.before)) tt
    × Kept run.answer run.before run.after
unfolding frame_leaves
frame_refuses κs a x s p =
    let run : FrameRun = (call.frame).seen κs a x s in
    let g = run.registers in (
      by_table tt _ (p.0 ∙ frame_told_holds g run.video run.cursor (length run.before)),
      kept (painted run.before 0 (cells (setting_of g)) (frame_cell g (setting_of g) run.video run.cursor)) p.0 p.1,
    )

pub raster_refuses : Every call.raster λ run.
    ByTable run.answer (raster_table run.registers run.video run.cursor run.raster (length run.before)) tt
    × Kept run.answer run.before run.after
unfolding raster_leaves
raster_refuses κs a x s p =
    let run : RasterRun = (call.raster).seen κs a x s in
    let g = run.registers in (
      by_table tt _ (p.0 ∙ raster_told_holds g run.video run.cursor run.raster (length run.before)),
      kept (painted run.before 0 (setting_of g).n.0 (raster_cell g (setting_of g) run.video run.cursor run.raster)) p.0 p.1,
    )

-- The count that is given is that of the marks' definition.
pub marks_refuses : Every call.marks λ run.
    ByTable run.answer (picture_table run.registers run.video run.cursor)
    (marks_of run.registers (setting_of run.registers) run.video run.cursor run.threshold)
marks_refuses κs a x s p =
    let run : MarksRun = (call.marks).seen κs a x s in
    by_table _ _ (p ∙ marks_told_holds run.registers run.video run.cursor run.threshold)

-- Marks per raster; a replacement that is refused leaves the list too.
pub summaries_refuses : Every call.summaries λ run.
    ByTable run.answer (summaries_table run.registers run.video run.cursor (length run.before)) tt
    × Kept run.answer run.before run.after
unfolding summaries_leaves
summaries_refuses κs a x s p =
    let run : SummariesRun = (call.summaries).seen κs a x s in
    let g = run.registers in (
      by_table tt _ (p.0 ∙ summaries_told_holds g run.video run.cursor (length run.before)),
      kept (painted run.before 0 (entries_length (setting_of g)) (entry_number g (setting_of g) run.video run.cursor run.threshold)) p.0 p.1,
    )

pub replace_refuses : Every call.replace λ run.
    ByTable run.answer (replace_table run.registers run.video run.cursor run.index (length run.before)) tt
    × Kept run.answer run.video run.list × Kept run.answer run.before run.after
unfolding video_leaves replace_leaves
replace_refuses κs a x s p =
    let run : ReplaceRun = (call.replace).seen κs a x s in
    let g = run.registers in
    let list = set run.video run.index run.word in
    let r = raster_of (setting_of g) run.index in (
      by_table tt _ (p.0 ∙ replace_told_holds g run.video run.cursor run.index (length run.before)),
      kept list p.0 p.1.0,
      kept (painted run.before (3 * r) (3 * r + 3) (entry_number g (setting_of g) list run.cursor run.threshold)) p.0 p.1.1,
    )

-- Mixing.
pub mix_refuses : Every call.mix λ run.
    ByTable run.answer (mix_table run.registers run.cells run.camera (length run.before)) tt
    × Kept run.answer run.before run.after
unfolding mix_leaves
mix_refuses κs a x s p =
    let run : MixRun = (call.mix).seen κs a x s in
    let g = run.registers in (
      by_table tt _ (p.0 ∙ mix_told_holds g run.cells run.camera (length run.before)),
      kept (painted run.before 0 (setting_of g).n.0 (mixed_at run.cells run.camera)) p.0 p.1,
    )

-- Where a raster's words stand, and of the words themselves the refusal or none.
pub stretch_table_holds : (g : Registers) (video : List ℕ) (y : ℕ) → ByTable (stretch_told g video y) (stretch_table g video y) (stretch_of (setting_of g) y)
stretch_table_holds g video y = by_table _ _ (stretch_told_holds g video y)

pub find_refuses : Every call.find λ run.
    ByTable run.answer (stretch_table run.registers run.video run.raster) (stretch_of (setting_of run.registers) run.raster)
find_refuses κs a x s p =
    let run : StretchRun Stretch = (call.find).seen κs a x s in
    by_table _ _ (p ∙ stretch_told_holds run.registers run.video run.raster)

pub raster_words_refuses : Every call.raster_words_answer λ run. ByTable run.answer (stretch_table run.registers run.video run.raster) tt
raster_words_refuses κs a x s p =
    let run : StretchRun (Unit {0}) = (call.raster_words_answer).seen κs a x s in
    by_table tt _
    (p ∙ ap answer_told (stretch_told_holds run.registers run.video run.raster)
    ∙ sym (judged_then (stretch_of (setting_of run.registers) run.raster) tt (stretch_table run.registers run.video run.raster)))

-- Sound.
pub play_refuses : Every call.play λ run.
    ByTable run.answer (play_table run.registers (length run.words) (length run.before)) tt
    × Kept run.answer run.before run.after × Kept run.answer run.counter run.counted
play_refuses κs a x s p =
    let run : PlayRun = (call.play).seen κs a x s in (
      by_table tt _ (p.0 ∙ play_told_holds run.registers (length run.words) (length run.before)),
      kept (sets run.before 0 (played_of run.registers run.counter run.words)) p.0 p.1.1,
      kept (counter_after run.counter (4 * length run.words)) p.0 p.1.0,
    )

pub pair_refuses : Every call.pair λ run. ByTable run.answer (pair_table run.stereo) (sides_of run.byte (run.stereo % 8))
pair_refuses κs a x s p = let run : PairRun = (call.pair).seen κs a x s in by_table _ _ (p ∙ pair_told_holds run.byte run.stereo)

-- Plate files.
pub read_refuses : Every call.read λ run. ByTable run.answer (read_table run.file) (sections_of run.file)
read_refuses κs a x s p = by_table _ _ (p ∙ read_told_holds ((call.read).seen κs a x s).file)

pub copy_out_refuses : Every call.copy_out λ run.
    ByTable run.answer (copy_table run.file (length run.before)) tt × Kept run.answer run.before run.after
copy_out_refuses κs a x s p =
    let run : CopyRun = (call.copy_out).seen κs a x s in
    (by_table tt _ (p.0 ∙ copy_told_holds run.file (length run.before)), kept (sets run.before 0 (copied run.file)) p.0 p.1)

pub write_refuses : Every call.write λ run.
    ByTable run.answer (write_table run.registers run.video run.cursor run.sound (length run.before))
    (plate_length run.registers run.video run.cursor run.sound)
    × Kept run.answer run.before run.after
write_refuses κs a x s p =
    let run : WriteRun = (call.write).seen κs a x s in (
      by_table _ _ (p.0 ∙ write_told_holds run.registers run.video run.cursor run.sound (length run.before)),
      kept (sets run.before 0 (plate_of run.registers run.video run.cursor run.sound)) p.0 p.1,
    )
