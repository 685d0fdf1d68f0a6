-- Demand 1 for a plate that is taken apart, printed or played: its refusals, in the order 14, 13 of a file, and of standard input 15, 14, then those of
-- load and check and 11, or 1, 2, 3 and 10, and what is written of it then. What is written of a plate is what is written of its own record and lists.
use Prim.Native.Nat.{ℕ}
use mathlib.Core.Path.{◌≡◌, refl, sym, ◌∙◌, ap}
use mathlib.Core.List.{List, [], ◌∷◌, ◌++◌}
use native.Mathlib.Omega.{arith}
use lib.ListN.{length}
use lib.Dec.{eqb}
use lib.Seq.{sets}
use borrow.Author.Tests.{eq-eqb, ne_eqb}
use Rattle.buffers.specs.Pick.{pick}
use Rattle.buffers.specs.Put.{Put, text_in}
use Rattle.refusals.specs.Table.{Why, Told, given, refused, Row, First, and_then, unless_refused}
use Rattle.registers.specs.Setting.{setting_of}
use Rattle.registers.specs.Sound.{sound_table, sound_told}
use Rattle.registers.specs.declared.record.Registers.{Registers}
use Rattle.plates.specs.Read.{copy_table, copy_told, copied}
use Rattle.sheets.specs.Sheet.{registers_of, parts_of, take_told}
use Rattle.sheets.specs.Input.{input_table, input_told, take_input_told}
use Rattle.sheets.proofs.Sheets.{take_then, input_then}
use Rattle.cells.specs.Picture.{picture_table, picture_told}
use Rattle.outputs.specs.Sheet.{sheet_table, sheet_told}
use Rattle.outputs.specs.Text.{refused_line, picture_line, line_by, line_at, picture_text, text_of}
use Rattle.outputs.specs.Strip.{picture_strip, strip_by, strip_at, picture_of}
use Rattle.outputs.specs.Wave.{wave_table, wave_told, wave_of, wave_block, block_by, block_at}
use Rattle.claims.specs.Calls.{Every, numbers, setting_numbers, ByTable, Kept}
use Rattle.claims.specs.Views as call
use Rattle.claims.specs.Views.{PictureLists, SoundWords, PieceRun, TakeRun}
use Rattle.claims.specs.Pieces.{Stored, StoredBy, table_of}
use Rattle.claims.proofs.Tables.{by_table, kept}
use Rattle.outputs.proofs.Sheets.{text_refused as text_of_refused, picture_refused as picture_of_refused, wave_refused as wave_of_refused}
pub use Rattle.outputs.proofs.Sheets.{sheet_untaken, sheet_unaccepted, text_accepted, picture_accepted, wave_untaken, wave_unaccepted, sound_accepted}

-- The numbers of each table, in its order.
pub take_numbers : (file : List ℕ) (places : ℕ) → numbers (copy_table file places) ≡ 14 ∷ 13 ∷ []
take_numbers file places = refl

pub input_numbers : (file : List ℕ) → numbers (input_table file) ≡ 15 ∷ 14 ∷ []
input_numbers file = refl

pub wave_numbers : (file : List ℕ) → numbers (wave_table file) ≡ 15 ∷ 14 ∷ 1 ∷ 2 ∷ 3 ∷ 10 ∷ []
wave_numbers file = refl

pub sheet_numbers : (file : List ℕ) → numbers (sheet_table file) ≡ 15 ∷ 14 ∷ 1 ∷ 2 ∷ (setting_numbers ++ (11 ∷ []))
sheet_numbers file = refl

-- What a refusal leaves does not hang on what would be given.
same_left : {A B C : Type 0} (t : Told A) (b : B) (was then : C) → unless_refused (and_then t (λ _. given b)) was then ≡ unless_refused t was then
same_left (given _) b was then = refl
same_left (refused _) b was then = refl

-- A plate is taken apart, or refused by its table, and then nothing changes.
pub take_refuses : Every call.take λ run.
    ByTable run.answer (copy_table run.file (length run.before)) (parts_of run.file) × Kept run.answer run.before run.after
unfolding take_told
take_refuses κs a x s p =
    let run : TakeRun = (call.take).seen κs a x s in
    let room = length run.before in
    let then = sets run.before 0 (copied run.file) in
    let left = p.1 ∙ sym (ap (λ u. unless_refused u run.before then) (take_then run.file room)
    ∙ same_left (copy_told run.file room) (parts_of run.file) run.before then) in
    (by_table (parts_of run.file) (copy_table run.file room) p.0, kept then p.0 left)

pub take_input_refuses : Every call.take_input λ run.
    ByTable run.answer (input_table run.file) (parts_of run.file) × Kept run.answer run.before run.after
unfolding take_input_told
take_input_refuses κs a x s p =
    let run : TakeRun = (call.take_input).seen κs a x s in
    let then = sets run.before 0 (copied run.file) in
    let left = p.1 ∙ sym (ap (λ u. unless_refused u run.before then) (input_then run.file)
    ∙ same_left (input_told run.file) (parts_of run.file) run.before then) in
    (by_table (parts_of run.file) (input_table run.file) p.0, kept then p.0 left)

-- A plate is given its setting, or refused, by the printer's table.
pub sheet_table_holds : (file : List ℕ) → ByTable (sheet_told file) (sheet_table file) (setting_of (registers_of file))
unfolding sheet_told
sheet_table_holds file = by_table (setting_of (registers_of file)) (sheet_table file) refl

-- A plate is played, or refused, by the table of its sound.
pub wave_table_holds : (file : List ℕ) → ByTable (wave_told file) (wave_table file) tt
unfolding wave_told
wave_table_holds file = by_table tt (wave_table file) refl

-- So are a picture and a sound, each by its own table.
picture_table_holds : (g : Registers) (video cursor : List ℕ) → ByTable (picture_told g video cursor) (picture_table g video cursor) (setting_of g)
unfolding picture_told
picture_table_holds g video cursor = by_table (setting_of g) (picture_table g video cursor) refl

sound_table_holds : (g : Registers) → ByTable (sound_told g) (sound_table g) tt
unfolding sound_told
sound_table_holds g = by_table tt (sound_table g) refl

-- A piece that goes by what a table tells.
piece : {A B : Type 0} (run : PieceRun B) {t : Told A} (text : Told A → List ℕ) {rows : List Row} {a : A} → ByTable t rows a
    → Put run.before run.after 0 (text t) run.bytes → StoredBy run rows (text (given a)) (λ w. text (refused w))
piece {A} run {t} text b p = record { given = λ q. stored (b.given_when.1 q); refused = λ w f. stored ((b.refused_when w).1 f) }
  where
    stored : {u : Told A} → t ≡ u → Stored run (text u)
    stored e = (p.stored ∙ ap (λ u. sets run.before 0 (text u)) e, omega (arith, p.after, ap (λ u. length (text u)) e))

-- A line of the text: the picture's, or the line that refuses it, which is the only one.
pub line_stored : Every call.line λ run.
    StoredBy run (table_of run)
    (picture_line run.of.registers (setting_of run.of.registers) run.of.video run.of.cursor run.index)
    (λ w. pick (eqb run.index 0) (refused_line w) [])
unfolding line_at
line_stored κs a x s p =
    let run : PieceRun PictureLists = (call.line).seen κs a x s in
    piece run (λ t. line_by run.of.registers run.of.video run.of.cursor t run.index)
    (picture_table_holds run.of.registers run.of.video run.of.cursor) p

pub line_refuses : Every call.line λ run. (w : Why) → First (table_of run) w → run.index ≡ 0 → Stored run (refused_line w)
line_refuses κs a x s p w f e = rw (eq-eqb ((call.line).seen κs a x s).index 0 e) at ((line_stored κs a x s p).refused w f)

pub no_other_line : Every call.line λ run. (w : Why) → First (table_of run) w → (run.index ≡ 0 → ⊥) → Stored run []
no_other_line κs a x s p w f h = rw (ne_eqb ((call.line).seen κs a x s).index 0 h) at ((line_stored κs a x s p).refused w f)

pub text_refused : (file : List ℕ) (w : Why) → First (sheet_table file) w → text_of file ≡ refused_line w
text_refused file w f = text_of_refused file w (((sheet_table_holds file).refused_when w).1 f)

-- The whole text of a picture, and the line that refuses, where they fit; none of either where not.
pub text_stored : Every call.text λ run.
    Stored run (text_in (length run.before) (picture_text run.of.registers run.of.video run.of.cursor))
text_stored κs a x s p = (p.stored, omega (arith, p.after))

pub refused_stored : Every call.refused_line λ run. Stored run (text_in (length run.before) (refused_line run.of))
refused_stored κs a x s p = (p.stored, omega (arith, p.after))

-- A strip of the picture; a refused picture has none.
pub strip_stored : Every call.strip λ run.
    StoredBy run (table_of run)
    (picture_strip run.of.registers (setting_of run.of.registers) run.of.video run.of.cursor run.index) (λ w. [])
unfolding strip_at
strip_stored κs a x s p =
    let run : PieceRun PictureLists = (call.strip).seen κs a x s in
    piece run (λ t. strip_by run.of.registers run.of.video run.of.cursor t run.index)
    (picture_table_holds run.of.registers run.of.video run.of.cursor) p

pub picture_refused : (file : List ℕ) (w : Why) → First (sheet_table file) w → picture_of file ≡ []
picture_refused file w f = picture_of_refused file w (((sheet_table_holds file).refused_when w).1 f)

-- A block of the sound; a record whose sound is refused has none.
pub block_stored : Every call.block λ run.
    StoredBy run (sound_table run.of.registers) (wave_block run.of.registers run.of.words run.index) (λ w. [])
unfolding block_at
block_stored κs a x s p =
    let run : PieceRun SoundWords = (call.block).seen κs a x s in
    piece run (λ t. block_by run.of.registers run.of.words t run.index) (sound_table_holds run.of.registers) p

pub wave_refused : (file : List ℕ) (w : Why) → First (wave_table file) w → wave_of file ≡ []
wave_refused file w f = wave_of_refused file w (((wave_table_holds file).refused_when w).1 f)
