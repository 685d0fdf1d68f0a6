-- Demand 2, as the user says it: a setting is accepted exactly when every rule holds; each cell, mark count and sound value is
-- then the rule's; plates read back, and are written again the same.
use Prim.Native.Nat.{ℕ, ◌+◌, ◌*◌, ◌%◌, ◌^◌, ◌≤◌}
use mathlib.Core.Path.{◌≡◌, refl, sym, ◌∙◌, ap}
use mathlib.Core.List.{List}
use native.Mathlib.Omega.{arith}
use lib.ListN.{length, get_or, take}
use lib.Seq.{sets}
use borrow.Author.Tests.{ltb-false}
use Rattle.buffers.specs.Painted.{painted}
use Rattle.buffers.proofs.Paints.{Paints, paints_of}
use Rattle.buffers.specs.Words.{Below}
use Rattle.refusals.specs.Table.{Told, given, unless_refused}
use Rattle.refusals.proofs.Tables.{passed}
use Rattle.registers.specs.Setting.{setting_of}
use Rattle.registers.specs.declared.record.Registers.{Registers}
use Rattle.frame.specs.Frame.{cells, frame_cell, raster_cell, raster_table, raster_told, raster_leaves}
use Rattle.marks.specs.Count.{bit, count_below}
use Rattle.marks.specs.Marks.{is_mark, marks_of}
use Rattle.marks.proofs.Answers.{marks_counted}
use Rattle.marks.proofs.Totals.{total_as}
use Rattle.sound.specs.Places.{EveryPlace}
use Rattle.sound.proofs.Places.{every_place}
use Rattle.plates.specs.Plate.{most_bytes, plate_length}
use Rattle.plates.specs.declared.Sections.{Sections}
use Rattle.plates.proofs.RoundTrip as round_trip
use Rattle.claims.specs.Calls.{Every}
use Rattle.claims.specs.Views as call
use Rattle.claims.specs.Views.{RasterRun, MarksRun}
use Rattle.claims.specs.Framed.{On, Right, Framed, Rastered}
use Rattle.claims.specs.RoundTrip.{ReadsBack, Cut}
use Rattle.claims.proofs.Runs.{framed}
use Rattle.claims.proofs.Refusals.{raster_refuses}
-- Each cell of the frame, of every run that is asked rightly; and such a run exists.
pub use Rattle.claims.proofs.Runs.{each_cell, right_runs, of_run}
-- Accepted exactly when every rule holds.
pub use Rattle.claims.proofs.Accept.{accepted_exactly, accept_run}
-- One byte's pair.
pub use Rattle.sound.proofs.Places.{pair_within}

raster_held : (g : Registers) (video cursor : List ℕ) (y : ℕ) (before after : List ℕ) → (setting_of g).n.0 ≤ length before
    → raster_told g video cursor y (length before) ≡ given tt → after ≡ raster_leaves g video cursor y before → Rastered g video cursor y before after
unfolding raster_leaves raster_cell
raster_held g video cursor y before after room t e =
    let drawn : after ≡ painted before 0 (setting_of g).n.0 (raster_cell g (setting_of g) video cursor y) =
    e ∙ ap (λ (u : Told (Unit {0})). unless_refused u before (painted before 0 (setting_of g).n.0 (raster_cell g (setting_of g) video cursor y))) t in
    let p : Paints 0 before after 0 (setting_of g).n.0 (raster_cell g (setting_of g) video cursor y) = paints_of room drawn in
    record { long = p.len; each = λ x h. p.on x (omega arith) h; beyond = p.high }

-- Each cell of one raster.
pub each_raster_cell : Every call.raster λ run. run.answer ≡ given tt
    → Rastered run.registers run.video run.cursor run.raster run.before run.after
each_raster_cell κs a x s p e =
    let run : RasterRun = (call.raster).seen κs a x s in
    let rows = raster_table run.registers run.video run.cursor run.raster (length run.before) in
    let passes = (raster_refuses κs a x s p).0.given_when.0 e in
    raster_held run.registers run.video run.cursor run.raster run.before run.after
    (ltb-false (length run.before) (setting_of run.registers).n.0 (passed 13 rows passes)) (sym p.0 ∙ e) p.1

-- The mark count is that of the frame: the cells of code 5 that a run of the frame call left, with grey at or above the threshold.
marks_in : (g : Registers) (video cursor : List ℕ) (threshold : ℕ) {before after : List ℕ} → Framed g video cursor before after
    → marks_of g (setting_of g) video cursor threshold ≡ count_below (λ k. is_mark threshold (get_or after k 0)) (cells (setting_of g))
unfolding marks_of frame_cell
marks_in g video cursor threshold {after = after} f =
    total_as _ (λ k. bit (is_mark threshold (get_or after k 0))) (cells (setting_of g))
    (λ k l. ap (λ (c : ℕ). bit (is_mark threshold c)) (sym (f.each k l)))

pub marks_of_the_frame : Every call.marks λ count. Every call.frame λ run.
    On count.registers count.video count.cursor run → Right count.registers count.video count.cursor run.before
    → count.answer ≡ given (count_below (λ k. is_mark count.threshold (get_or run.after k 0)) (cells (setting_of count.registers)))
marks_of_the_frame κs a x s p κs' a' x' s' p' on r =
    let count : MarksRun = (call.marks).seen κs a x s in
    p ∙ marks_counted count.registers count.video count.cursor count.threshold (setting_of count.registers) r.picture
    ∙ ap given (marks_in count.registers count.video count.cursor count.threshold (framed κs' a' x' s' p' on r))

-- Each sound value, at every place of lent memory, and the counter afterwards.
pub each_sound_value : Every call.play λ run. run.answer ≡ given tt
    → (run.counted ≡ (run.counter + 4 * length run.words) % 2 ^ 32)
    × EveryPlace run.registers run.words run.counter run.before run.after
each_sound_value = every_place

-- Four lists whose plate fits are written, and what is written reads back as those lists.
pub read_back_as_written : Every call.write λ run.
    Below (2 ^ 32) run.registers → Below (2 ^ 32) run.video → Below (2 ^ 32) run.cursor → Below (2 ^ 32) run.sound
    → plate_length run.registers run.video run.cursor run.sound ≤ most_bytes
    → plate_length run.registers run.video run.cursor run.sound ≤ length run.before
    → (run.answer ≡ given (plate_length run.registers run.video run.cursor run.sound))
    × ReadsBack (take (plate_length run.registers run.video run.cursor run.sound) run.after)
    run.registers run.video run.cursor run.sound
read_back_as_written κs a x s p br bv bc bs fits room =
    let (written, back) = round_trip.read_back_as_written κs a x s p br bv bc bs fits room in
    (written, record { reading = back.reading; copying = back.copying })

-- An accepted file, its words copied out, cut at its own section starts and written, gives the same bytes.
pub written_again_the_same : Every call.read λ reading. Every call.copy_out λ copy. Every call.write λ again. (sections : Sections)
    → Below 256 reading.file → reading.answer ≡ given sections
    → copy.file ≡ reading.file → sections.r ≤ length copy.before
    → Cut sections copy again → length reading.file ≤ length again.before
    → (again.answer ≡ given (length reading.file)) × (again.after ≡ sets again.before 0 reading.file)
written_again_the_same κr b y t pr κc d z u pc κw a x s pw sections small accepted same room cut fits =
    round_trip.written_again_the_same κr b y t κc d z u κw a x s ((call.read).seen κr b y t).file sections small pr refl accepted pc same room pw
    cut.registers cut.video cut.cursor cut.sound fits
