-- Demand 1 for the calls for C: of each that can refuse, the numbers it can answer, exactly when, and in which order; refused, it leaves every
-- lent memory as it was. What a call tells is put together of the tables of the calls below it, and the number that it answers says it.
use Prim.Native.Nat.{ℕ, ◌+◌, ◌*◌, ◌%◌}
use mathlib.Core.Path.{◌≡◌, refl}
use mathlib.Core.List.{List, [], ◌∷◌, ◌++◌}
use native.Mathlib.Omega.{arith}
use lib.ListN.{length, set}
use lib.Seq.{sets}
use Rattle.buffers.specs.Painted.{painted}
use Rattle.refusals.specs.Table.{Told, given, Row, judged, unless_refused}
use Rattle.registers.specs.Record.{word_table, word_told}
use Rattle.registers.specs.Load.{applied}
use Rattle.registers.specs.Setting.{setting_of}
use Rattle.registers.specs.Accept.{accept_table, accept_told, accept_sound_table, accept_sound_told}
use Rattle.registers.specs.Sound.{sound_table, sound_told}
use Rattle.registers.specs.declared.record.Registers.{Registers}
use Rattle.registers.proofs.Told.{sound_told_holds}
use Rattle.queues.specs.Syncs.{sync_ask}
use Rattle.queues.specs.Steps.{load_table as queue_load_table, read_table as queue_read_table}
use Rattle.queues.specs.declared.Queue.{Queue}
use Rattle.colours.specs.Apart.{apart_of}
use Rattle.colours.specs.Colour.{colour_of}
use Rattle.mixing.specs.Mix.{mix_table, mix_told, mix_leaves, mixed_at}
use Rattle.mixing.proofs.Calls.{mix_told_holds}
use Rattle.cells.specs.Picture.{picture_table}
use Rattle.frame.specs.Frame.{cells, frame_cell, frame_table, frame_told, frame_leaves, raster_cell, raster_table, raster_told, raster_leaves}
use Rattle.frame.proofs.Told.{frame_told_holds, raster_told_holds}
use Rattle.marks.proofs.Told.{marks_told_holds, summaries_told_holds, replace_told_holds}
use Rattle.stretch.proofs.Told.{stretch_told_holds}
use Rattle.marks.specs.Marks.{marks_of, marks_told}
use Rattle.marks.specs.Summaries.{entries_length, entry_number, raster_of, summaries_table, summaries_told, summaries_leaves}
use Rattle.marks.specs.Summaries.{replace_table, replace_told, video_leaves, replace_leaves}
use Rattle.stretch.specs.Stretch.{stretch_of, stretch_table, stretch_told}
use Rattle.sound.specs.Values.{counter_after}
use Rattle.sound.specs.Play.{play_table, play_told, played_of}
use Rattle.sound.specs.Pair.{sides_of, pair_table}
use Rattle.plates.specs.Plate.{sections_of, plate_of, plate_length}
use Rattle.plates.specs.Read.{read_table, copy_table, copy_told, copied}
use Rattle.plates.specs.Write.{write_table, write_told}
use Rattle.outputs.specs.Text.{text_of}
use Rattle.vombelishi.specs.Code.{stored_by, cell_by, part_by}
use Rattle.vombelishi.specs.Record.{record_of, record_told}
use Rattle.vombelishi.specs.Load.{value_stored, flag_stored, values_stored, flags_stored, word_call, word_values_leaves, word_written_leaves}
use Rattle.vombelishi.specs.Load.{accepted_told, accept_call, accept_values_leaves, accept_written_leaves}
use Rattle.vombelishi.specs.Load.{accept_sound_call, sound_values_leaves, sound_written_leaves}
use Rattle.vombelishi.specs.Settings.{numbers_of, check_sound_call}
use Rattle.vombelishi.specs.Pictures.{frame_call, frame_call_leaves, raster_call, raster_call_leaves, found_told, words_call, marks_call}
use Rattle.vombelishi.specs.Pictures.{colour_call, colour_part, supremacy_part, mix_call, mix_call_leaves}
use Rattle.vombelishi.specs.Summaries.{summaries_call, summaries_call_leaves, replace_call, video_call_leaves, replace_call_leaves}
use Rattle.vombelishi.specs.Queued.{sync_call}
use Rattle.vombelishi.specs.Sounds.{sound_call, sound_leaves, counter_leaves, pair_call}
use Rattle.vombelishi.specs.Files.{nine_of, read_call}
use Rattle.vombelishi.specs.Texts.{text_call, text_leaves}
use Rattle.vombelishi.proofs.Pictured.{place_of}
use Rattle.sound.proofs.Told.{play_told_holds, pair_told_holds}
use Rattle.plates.proofs.Told.{read_told_holds, copy_told_holds, write_told_holds}
use Rattle.claims.specs.Calls.{Every, numbers, setting_numbers, ByTable, Kept}
use Rattle.claims.specs.CRows.{of_record, room_for, text_rows}
use Rattle.claims.specs.CViews as c
use Rattle.claims.specs.CViews.{LoadRun, AcceptRun, CheckSoundRun, FrameRun, RasterRun, WordsRun, MarksRun, SummariesRun, ReplaceRun}
use Rattle.claims.specs.CViews.{ColourRun, MixRun, SyncRun, SoundRun, PairRun, FileRun, WriteRun, TextRun}
use Rattle.claims.proofs.CCodes.{no_rows, plain, fits_after, setting_fits, sound_fits, mix_fits, accept_fits, accept_sound_fits}
use Rattle.claims.proofs.CCodes.{by_code, kept_code, kept_under, record_told_holds, record_fits, record_code, room_code}

-- The numbers of each table, in its order.
module _ (values written : List ℕ) where
  pub vom_load_and_check_numbers : (words : List ℕ) (places : ℕ)
      → numbers ((of_record values written λ g. accept_table g words) ++ room_for 21 places) ≡ 13 ∷ 1 ∷ 2 ∷ (setting_numbers ++ (13 ∷ []))
  vom_load_and_check_numbers words places = refl

  pub vom_load_and_check_sound_numbers : (words : List ℕ) → numbers (of_record values written λ g. accept_sound_table g words) ≡ 13 ∷ 1 ∷ 2 ∷ 3 ∷ 10 ∷ []
  vom_load_and_check_sound_numbers words = refl

  pub vom_load_word_numbers : (word : ℕ) → numbers (of_record values written λ g. word_table word) ≡ 13 ∷ 2 ∷ []
  vom_load_word_numbers word = refl

  pub vom_check_sound_numbers : numbers (of_record values written sound_table) ≡ 13 ∷ 3 ∷ 10 ∷ []
  vom_check_sound_numbers = refl

  module _ (video cursor : List ℕ) where
    pub vom_frame_numbers : (places : ℕ)
        → numbers (of_record values written λ g. frame_table g video cursor places) ≡ 13 ∷ (setting_numbers ++ (11 ∷ 13 ∷ []))
    vom_frame_numbers places = refl

    pub vom_raster_numbers : (y places : ℕ)
        → numbers (of_record values written λ g. raster_table g video cursor y places) ≡ 13 ∷ (setting_numbers ++ (11 ∷ 12 ∷ 13 ∷ []))
    vom_raster_numbers y places = refl

    pub vom_marks_numbers : numbers (of_record values written λ g. picture_table g video cursor) ≡ 13 ∷ (setting_numbers ++ (11 ∷ []))
    vom_marks_numbers = refl

    pub vom_summaries_numbers : (places : ℕ)
        → numbers (of_record values written λ g. summaries_table g video cursor places) ≡ 13 ∷ (setting_numbers ++ (11 ∷ 13 ∷ []))
    vom_summaries_numbers places = refl

    pub vom_replace_numbers : (index places : ℕ)
        → numbers (of_record values written λ g. replace_table g video cursor index places) ≡ 13 ∷ (setting_numbers ++ (11 ∷ 18 ∷ 13 ∷ []))
    vom_replace_numbers index places = refl

  pub vom_mix_numbers : (cells camera : List ℕ) (places : ℕ)
      → numbers (of_record values written λ g. mix_table g cells camera places) ≡ 13 ∷ (setting_numbers ++ (13 ∷ 20 ∷ []))
  vom_mix_numbers cells camera places = refl

  pub vom_raster_words_numbers : (video : List ℕ) (y places : ℕ)
      → numbers ((of_record values written λ g. stretch_table g video y) ++ room_for 2 places) ≡ 13 ∷ (setting_numbers ++ (11 ∷ 12 ∷ 13 ∷ []))
  vom_raster_words_numbers video y places = refl

  pub vom_colour_numbers : numbers (of_record values written λ g. []) ≡ 13 ∷ []
  vom_colour_numbers = refl

  pub vom_sync_ask_numbers : numbers (of_record values written λ g. []) ≡ 13 ∷ []
  vom_sync_ask_numbers = refl

  pub vom_sound_numbers : (words places : ℕ) → numbers (of_record values written λ g. play_table g words places) ≡ 13 ∷ 3 ∷ 10 ∷ 13 ∷ []
  vom_sound_numbers words places = refl

pub vom_queue_load_numbers : (q : Queue) → numbers (queue_load_table q) ≡ 16 ∷ []
vom_queue_load_numbers q = refl

pub vom_queue_read_numbers : (q : Queue) → numbers (queue_read_table q) ≡ 17 ∷ []
vom_queue_read_numbers q = refl

pub vom_sound_pair_numbers : (stereo places : ℕ) → numbers (pair_table stereo ++ room_for 2 places) ≡ 10 ∷ 13 ∷ []
vom_sound_pair_numbers stereo places = refl

pub vom_read_numbers : (file : List ℕ) (places : ℕ) → numbers (read_table file ++ room_for 9 places) ≡ 14 ∷ 13 ∷ []
vom_read_numbers file places = refl

pub vom_text_numbers : (file : List ℕ) (places : ℕ) → numbers (text_rows file places) ≡ 13 ∷ []
vom_text_numbers file places = refl

-- Loading a list and checking what it leaves.
pub vom_load_and_check_refuses : Every c.load_and_check λ run.
    ByTable run.answer ((of_record run.values run.written λ g. accept_table g run.words) ++ room_for 21 (length run.before)) tt
    × Kept run.answer run.values run.values_after × Kept run.answer run.written run.written_after
    × Kept run.answer run.before run.after
unfolding accept_told accepted_told accept_call accept_values_leaves accept_written_leaves
vom_load_and_check_refuses κs a x s p =
    let run : AcceptRun = (c.load_and_check).seen κs a x s in
    let g = record_of run.values run.written in
    let t = accept_call run.values run.written run.words (length run.before) in (
      room_code 21 (length run.before) numbers_of (of_record run.values run.written λ g. accept_table g run.words)
          (setting_of (applied g run.words))
          (record_fits run.values run.written (λ g. accept_table g run.words) (λ g. accept_fits g run.words))
          (record_told_holds run.values run.written (λ g. accept_told g run.words) (λ g. accept_table g run.words)
          (λ g. setting_of (applied g run.words)) (λ g. refl)) p.0,
      kept_code t (λ u. unless_refused u run.values (values_stored run.values run.words)) p.0 p.1 (λ w. refl),
      kept_code t (λ u. unless_refused u run.written (flags_stored run.written run.words)) p.0 p.2 (λ w. refl),
      kept_code t (λ u. stored_by u run.before) p.0 p.3 (λ w. refl),
    )

pub vom_load_and_check_sound_refuses : Every c.load_and_check_sound λ run.
    ByTable run.answer (of_record run.values run.written λ g. accept_sound_table g run.words) tt
    × Kept run.answer run.values run.values_after × Kept run.answer run.written run.written_after
unfolding accept_sound_told accept_sound_call sound_values_leaves sound_written_leaves
vom_load_and_check_sound_refuses κs a x s p =
    let run : LoadRun (List ℕ) = (c.load_and_check_sound).seen κs a x s in
    let t = accept_sound_call run.values run.written run.words in (
      record_code run.values run.written (λ g. accept_sound_told g run.words) (λ g. accept_sound_table g run.words) (λ g. tt)
          (λ g. accept_sound_fits g run.words) (λ g. refl) p.0,
      kept_code t (λ u. unless_refused u run.values (values_stored run.values run.words)) p.0 p.1 (λ w. refl),
      kept_code t (λ u. unless_refused u run.written (flags_stored run.written run.words)) p.0 p.2 (λ w. refl),
    )

-- One word.
pub vom_load_word_refuses : Every c.load_word λ run.
    ByTable run.answer (of_record run.values run.written λ g. word_table run.words) tt
    × Kept run.answer run.values run.values_after × Kept run.answer run.written run.written_after
unfolding word_call word_values_leaves word_written_leaves
vom_load_word_refuses κs a x s p =
    let run : LoadRun ℕ = (c.load_word).seen κs a x s in
    let t = word_call run.values run.written run.words in (
      record_code run.values run.written (λ g. word_told run.words) (λ g. word_table run.words) (λ g. tt)
          (λ g. plain (omega arith) no_rows) (λ g. refl) p.0,
      kept_code t (λ u. unless_refused u run.values (value_stored run.values run.words)) p.0 p.1 (λ w. refl),
      kept_code t (λ u. unless_refused u run.written (flag_stored run.written run.words)) p.0 p.2 (λ w. refl),
    )

-- Judging for sound.
pub vom_check_sound_refuses : Every c.check_sound λ run. ByTable run.answer (of_record run.values run.written sound_table) tt
unfolding check_sound_call
vom_check_sound_refuses κs a x s p =
    let run : CheckSoundRun = (c.check_sound).seen κs a x s in
    record_code run.values run.written sound_told sound_table (λ g. tt) sound_fits sound_told_holds p

-- Pictures.
pub vom_frame_refuses : Every c.frame λ run.
    ByTable run.answer (of_record run.values run.written λ g. frame_table g run.video run.cursor (length run.before)) tt
    × Kept run.answer run.before run.after
unfolding frame_call frame_call_leaves frame_leaves
vom_frame_refuses κs a x s p =
    let run : FrameRun = (c.frame).seen κs a x s in
    let tells : Registers → Told (Unit {0}) = λ g. frame_told g run.video run.cursor (length run.before) in (
      record_code run.values run.written tells (λ g. frame_table g run.video run.cursor (length run.before)) (λ g. tt)
          (λ g. fits_after (setting_fits g) (plain (omega arith) (plain (omega arith) no_rows)))
          (λ g. frame_told_holds g run.video run.cursor (length run.before)) p.0,
      kept_under (record_told run.values run.written) tells (λ g. frame_leaves g run.video run.cursor run.before)
          (λ g. painted run.before 0 (cells (setting_of g)) (frame_cell g (setting_of g) run.video run.cursor)) (λ g. refl) p.0 p.1,
    )

pub vom_raster_refuses : Every c.raster λ run.
    ByTable run.answer (of_record run.values run.written λ g. raster_table g run.video run.cursor run.raster (length run.before)) tt
    × Kept run.answer run.before run.after
unfolding raster_call raster_call_leaves raster_leaves
vom_raster_refuses κs a x s p =
    let run : RasterRun = (c.raster).seen κs a x s in
    let tells : Registers → Told (Unit {0}) = λ g. raster_told g run.video run.cursor run.raster (length run.before) in (
      record_code run.values run.written tells (λ g. raster_table g run.video run.cursor run.raster (length run.before)) (λ g. tt)
          (λ g. fits_after (setting_fits g) (plain (omega arith) (plain (omega arith) (plain (omega arith) no_rows))))
          (λ g. raster_told_holds g run.video run.cursor run.raster (length run.before)) p.0,
      kept_under (record_told run.values run.written) tells (λ g. raster_leaves g run.video run.cursor run.raster run.before)
          (λ g. painted run.before 0 (setting_of g).n.0 (raster_cell g (setting_of g) run.video run.cursor run.raster)) (λ g. refl) p.0 p.1,
    )

pub vom_raster_words_refuses : Every c.raster_words λ run.
    ByTable run.answer
    ((of_record run.values run.written λ g. stretch_table g run.video run.raster) ++ room_for 2 (length run.before)) tt
    × Kept run.answer run.before run.after
unfolding words_call found_told
vom_raster_words_refuses κs a x s p =
    let run : WordsRun = (c.raster_words).seen κs a x s in
    let own : Registers → List Row = λ g. stretch_table g run.video run.raster in (
      room_code 2 (length run.before) place_of (of_record run.values run.written own)
          (stretch_of (setting_of (record_of run.values run.written)) run.raster)
          (record_fits run.values run.written own
          (λ g. fits_after (setting_fits g) (plain (omega arith) (plain (omega arith) no_rows))))
          (record_told_holds run.values run.written (λ g. stretch_told g run.video run.raster) own (λ g. stretch_of (setting_of g) run.raster)
          (λ g. stretch_told_holds g run.video run.raster)) p.0,
      kept_code (words_call run.values run.written run.video run.raster (length run.before)) (λ u. stored_by u run.before)
          p.0 p.1 (λ w. refl),
    )

pub vom_marks_refuses : Every c.marks λ run.
    ByTable run.answer (of_record run.values run.written λ g. picture_table g run.video run.cursor) tt
    × Kept run.answer run.before run.after
unfolding marks_call
vom_marks_refuses κs a x s p =
    let run : MarksRun = (c.marks).seen κs a x s in (
      record_code run.values run.written (λ g. marks_told g run.video run.cursor run.threshold)
          (λ g. picture_table g run.video run.cursor) (λ g. marks_of g (setting_of g) run.video run.cursor run.threshold)
          (λ g. fits_after (setting_fits g) (plain (omega arith) no_rows))
          (λ g. marks_told_holds g run.video run.cursor run.threshold) p.0,
      kept_code (marks_call run.values run.written run.video run.cursor run.threshold) (λ u. cell_by u run.before)
          p.0 p.1 (λ w. refl),
    )

pub vom_summaries_refuses : Every c.summaries λ run.
    ByTable run.answer (of_record run.values run.written λ g. summaries_table g run.video run.cursor (length run.before)) tt
    × Kept run.answer run.before run.after
unfolding summaries_call summaries_call_leaves summaries_leaves
vom_summaries_refuses κs a x s p =
    let run : SummariesRun = (c.summaries).seen κs a x s in
    let tells : Registers → Told (Unit {0}) = λ g. summaries_told g run.video run.cursor (length run.before) in
    let afresh : Registers → List ℕ = λ g.
    painted run.before 0 (entries_length (setting_of g)) (entry_number g (setting_of g) run.video run.cursor run.threshold) in (
      record_code run.values run.written tells (λ g. summaries_table g run.video run.cursor (length run.before)) (λ g. tt)
          (λ g. fits_after (setting_fits g) (plain (omega arith) (plain (omega arith) no_rows)))
          (λ g. summaries_told_holds g run.video run.cursor (length run.before)) p.0,
      kept_under (record_told run.values run.written) tells (λ g. summaries_leaves g run.video run.cursor run.threshold run.before)
          afresh (λ g. refl) p.0 p.1,
    )

pub vom_replace_refuses : Every c.replace λ run.
    ByTable run.answer (of_record run.values run.written λ g. replace_table g run.video run.cursor run.index (length run.before)) tt
    × Kept run.answer run.video run.list × Kept run.answer run.before run.after
unfolding replace_call video_call_leaves replace_call_leaves video_leaves replace_leaves
vom_replace_refuses κs a x s p =
    let run : ReplaceRun = (c.replace).seen κs a x s in
    let tells : Registers → Told (Unit {0}) = λ g. replace_told g run.video run.cursor run.index (length run.before) in
    let list = set run.video run.index run.word in
    let entry : Registers → List ℕ = λ g.
    painted run.before (3 * raster_of (setting_of g) run.index) (3 * raster_of (setting_of g) run.index + 3)
    (entry_number g (setting_of g) list run.cursor run.threshold) in (
      record_code run.values run.written tells (λ g. replace_table g run.video run.cursor run.index (length run.before)) (λ g. tt)
          (λ g. fits_after (setting_fits g) (plain (omega arith) (plain (omega arith) (plain (omega arith) no_rows))))
          (λ g. replace_told_holds g run.video run.cursor run.index (length run.before)) p.0,
      kept_under (record_told run.values run.written) tells
          (λ g. video_leaves g run.video run.cursor run.index run.word (length run.before)) (λ g. list) (λ g. refl) p.0 p.1,
      kept_under (record_told run.values run.written) tells
          (λ g. replace_leaves g run.video run.cursor run.threshold run.index run.word run.before) entry (λ g. refl) p.0 p.2,
    )

pub vom_colour_refuses : Every c.colour λ run.
    ByTable run.answer (of_record run.values run.written λ g. []) tt
    × Kept run.answer run.before run.after × Kept run.answer run.supremacy_before run.supremacy_after
unfolding colour_call
vom_colour_refuses κs a x s p =
    let run : ColourRun = (c.colour).seen κs a x s in
    let t = colour_call run.values run.written run.depth run.pixel in (
      record_code run.values run.written (λ g. given (apart_of (colour_of g run.depth run.pixel))) (λ g. [])
          (λ g. apart_of (colour_of g run.depth run.pixel)) (λ g. no_rows) (λ g. refl) p.0,
      kept_code t (λ u. part_by u colour_part run.before) p.0 p.1 (λ w. refl),
      kept_code t (λ u. part_by u supremacy_part run.supremacy_before) p.0 p.2 (λ w. refl),
    )

-- Mixing: the index of a camera's number is below N, which is at most 2,048.
pub vom_mix_refuses : Every c.mix λ run.
    ByTable run.answer (of_record run.values run.written λ g. mix_table g run.cells run.camera (length run.before)) tt
    × Kept run.answer run.before run.after
unfolding mix_call mix_call_leaves mix_leaves
vom_mix_refuses κs a x s p =
    let run : MixRun = (c.mix).seen κs a x s in
    let tells : Registers → Told (Unit {0}) = λ g. mix_told g run.cells run.camera (length run.before) in (
      record_code run.values run.written tells (λ g. mix_table g run.cells run.camera (length run.before)) (λ g. tt)
          (λ g. mix_fits g run.cells run.camera (length run.before))
          (λ g. mix_told_holds g run.cells run.camera (length run.before)) p.0,
      kept_under (record_told run.values run.written) tells (λ g. mix_leaves g run.cells run.camera run.before)
          (λ g. painted run.before 0 (setting_of g).n.0 (mixed_at run.cells run.camera)) (λ g. refl) p.0 p.1,
    )

-- Queues. What the calls on a lent queue refuse is in `Lent`.
pub vom_sync_ask_refuses : Every c.sync_ask λ run.
    ByTable run.answer (of_record run.values run.written λ g. []) tt × Kept run.answer run.before run.after
unfolding sync_call
vom_sync_ask_refuses κs a x s p =
    let run : SyncRun = (c.sync_ask).seen κs a x s in (
      record_code run.values run.written (λ g. given (sync_ask g run.kind run.raster)) (λ g. [])
          (λ g. sync_ask g run.kind run.raster) (λ g. no_rows) (λ g. refl) p.0,
      kept_code (sync_call run.values run.written run.kind run.raster) (λ u. cell_by u run.before) p.0 p.1 (λ w. refl),
    )

-- Sound.
pub vom_sound_refuses : Every c.sound λ run.
    ByTable run.answer (of_record run.values run.written λ g. play_table g (length run.words) (length run.before)) tt
    × Kept run.answer run.counter run.counted × Kept run.answer run.before run.after
unfolding sound_call sound_leaves counter_leaves
vom_sound_refuses κs a x s p =
    let run : SoundRun = (c.sound).seen κs a x s in
    let t = sound_call run.values run.written (length run.words) (length run.before) in (
      record_code run.values run.written (λ g. play_told g (length run.words) (length run.before))
          (λ g. play_table g (length run.words) (length run.before)) (λ g. tt)
          (λ g. fits_after (sound_fits g) (plain (omega arith) no_rows))
          (λ g. play_told_holds g (length run.words) (length run.before)) p.0,
      kept_code t (λ u. unless_refused u run.counter (counter_after run.counter (4 * length run.words))) p.0 p.1 (λ w. refl),
      kept_code t (λ u. unless_refused u run.before (sets run.before 0 (played_of (record_of run.values run.written) run.counter run.words)))
          p.0 p.2 (λ w. refl),
    )

pub vom_sound_pair_refuses : Every c.sound_pair λ run.
    ByTable run.answer (pair_table run.stereo ++ room_for 2 (length run.before)) tt × Kept run.answer run.before run.after
unfolding pair_call
vom_sound_pair_refuses κs a x s p =
    let run : PairRun = (c.sound_pair).seen κs a x s in (
      room_code 2 (length run.before) (λ sides. sides.left ∷ sides.right ∷ []) (pair_table run.stereo) (sides_of run.byte (run.stereo % 8))
          (plain (omega arith) no_rows) (pair_told_holds run.byte run.stereo) p.0,
      kept_code (pair_call run.byte run.stereo (length run.before)) (λ u. stored_by u run.before) p.0 p.1 (λ w. refl),
    )

-- Plate files.
pub vom_read_refuses : Every c.read λ run.
    ByTable run.answer (read_table run.file ++ room_for 9 (length run.before)) tt × Kept run.answer run.before run.after
unfolding read_call
vom_read_refuses κs a x s p =
    let run : FileRun = (c.read).seen κs a x s in (
      room_code 9 (length run.before) nine_of (read_table run.file) (sections_of run.file) (plain (omega arith) no_rows) (read_told_holds run.file) p.0,
      kept_code (read_call run.file (length run.before)) (λ u. stored_by u run.before) p.0 p.1 (λ w. refl),
    )

pub vom_copy_refuses : Every c.copy λ run.
    ByTable run.answer (copy_table run.file (length run.before)) tt × Kept run.answer run.before run.after
vom_copy_refuses κs a x s p =
    let run : FileRun = (c.copy).seen κs a x s in (
      by_code (copy_table run.file (length run.before)) tt (plain (omega arith) (plain (omega arith) no_rows))
          (copy_told_holds run.file (length run.before)) p.0,
      kept_code (copy_told run.file (length run.before)) (λ u. unless_refused u run.before (sets run.before 0 (copied run.file)))
          p.0 p.1 (λ w. refl),
    )

pub vom_write_refuses : Every c.write λ run.
    ByTable run.answer (write_table run.registers run.video run.cursor run.sound (length run.before)) tt
    × Kept run.answer run.before run.after × Kept run.answer run.size run.size_after
vom_write_refuses κs a x s p =
    let run : WriteRun = (c.write).seen κs a x s in
    let t = write_told run.registers run.video run.cursor run.sound (length run.before) in (
      by_code (write_table run.registers run.video run.cursor run.sound (length run.before))
          (plate_length run.registers run.video run.cursor run.sound) (plain (omega arith) (plain (omega arith) no_rows))
          (write_told_holds run.registers run.video run.cursor run.sound (length run.before)) p.0,
      kept_code t (λ u. unless_refused u run.before (sets run.before 0 (plate_of run.registers run.video run.cursor run.sound)))
          p.0 p.1 (λ w. refl),
      kept_code t (λ u. cell_by u run.size) p.0 p.2 (λ w. refl),
    )

text_told : (file : List ℕ) (places : ℕ) → text_call file places ≡ judged (text_rows file places) (length (text_of file))
unfolding text_call
text_told file places = refl

pub vom_text_refuses : Every c.text λ run.
    ByTable run.answer (text_rows run.file (length run.before)) tt
    × Kept run.answer run.before run.after × Kept run.answer run.size run.size_after
unfolding text_leaves
vom_text_refuses κs a x s p =
    let run : TextRun = (c.text).seen κs a x s in
    let t = text_call run.file (length run.before) in (
      by_code (text_rows run.file (length run.before)) (length (text_of run.file)) (plain (omega arith) no_rows)
          (text_told run.file (length run.before)) p.0,
      kept_code t (λ u. unless_refused u run.before (sets run.before 0 (text_of run.file))) p.0 p.1 (λ w. refl),
      kept_code t (λ u. cell_by u run.size) p.0 p.2 (λ w. refl),
    )
