-- A call per raster that is not refused has a picture and room, and a replacement an index in its list too; one outside the list is refused with 18.
use Prim.Native.Nat.{ℕ, ◌≤◌, ◌<◌}
use mathlib.Core.Bool.{false}
use mathlib.Core.List.{List, [], ◌∷◌, ◌++◌}
use mathlib.Core.Path.{◌≡◌, sym, ◌∙◌}
use native.Mathlib.Omega.{arith}
use borrow.Author.Tests.{ltb-false, leb-false}
use lib.Dec.{ltb, leb}
use lib.ListN.{length}
use Rattle.refusals.specs.Table.{why, given, refused, Row, row, Passes}
use Rattle.refusals.proofs.Tables.{passes_first, passes_second, passes_given, given_passes}
use Rattle.registers.specs.Setting.{setting_of, display_on, video_words}
use Rattle.registers.specs.declared.record.Registers.{Registers}
use Rattle.registers.specs.declared.setting.Setting.{Setting}
use Rattle.registers.proofs.Accepted.{video_off}
use Rattle.cells.specs.Picture.{picture_table, picture_told}
use Rattle.cells.specs.inner.Known.{Picture}
use Rattle.cells.proofs.Pictures.{picture_told_holds, given_picture}
use Rattle.marks.specs.Summaries.{entries_length, summaries_table, summaries_told, replace_table, replace_told}
use Rattle.marks.proofs.Calls.{replace_outside}

-- What a replacement that is not refused has.
pub record Taken (g : Registers) (video cursor : List ℕ) (index room : ℕ) : Type 0 where
  pub told : picture_told g video cursor ≡ given (setting_of g)
  pub picture : Picture (setting_of g) video cursor
  pub inside : index < video_words (setting_of g)
  pub fits : entries_length (setting_of g) ≤ room

module _ (g : Registers) (video cursor : List ℕ) where
  -- A table that is passed behind the picture's.
  picture_passed : (more : List Row) → Passes (picture_table g video cursor ++ more) → picture_told g video cursor ≡ given (setting_of g)
  picture_passed more p =
      picture_told_holds g video cursor ∙ passes_given (setting_of g) (picture_table g video cursor) (passes_first (picture_table g video cursor) more p)

  pub given_summaries : (room : ℕ) → summaries_told g video cursor room ≡ given tt
      → Picture (setting_of g) video cursor × (entries_length (setting_of g) ≤ room)
  unfolding summaries_told
  given_summaries room e =
      let short = row 13 (ltb room (entries_length (setting_of g))) 0 ∷ [] in
      let all = (given_passes tt (summaries_table g video cursor room) tt e).0 in (
        given_picture g video cursor (setting_of g) (picture_passed short all),
        ltb-false room (entries_length (setting_of g)) (passes_second (picture_table g video cursor) short all).0,
      )

  -- Of the list only its length counts.
  pub summaries_same : (other : List ℕ) (room : ℕ) → length other ≡ length video → summaries_told g other cursor room ≡ summaries_told g video cursor room
  unfolding summaries_told
  summaries_same other room e = rw e

  pub replace_taken : (index room : ℕ) → replace_told g video cursor index room ≡ given tt → Taken g video cursor index room
  unfolding replace_told
  replace_taken index room e =
      let rest = row 18 (leb (length video) index) 0 ∷ row 13 (ltb room (entries_length (setting_of g))) 0 ∷ [] in
      let all = (given_passes tt (replace_table g video cursor index room) tt e).0 in
      let more = passes_second (picture_table g video cursor) rest all in
      let shown = picture_passed rest all in
      let known = given_picture g video cursor (setting_of g) shown in
      record {
        told = shown;
        picture = known;
        inside = omega (arith, leb-false (length video) index more.0, known.video_words);
        fits = ltb-false room (entries_length (setting_of g)) more.1.0;
      }

  -- Where there is no word, every index is outside the list.
  pub replace_no_word : (s : Setting) (index : ℕ) (out : List ℕ) → picture_told g video cursor ≡ given s → display_on s ≡ false
      → replace_told g video cursor index (length out) ≡ refused (why 18 0)
  replace_no_word s index out e off =
      sym (replace_outside g video cursor 0 out index 0 s e (omega (arith, (given_picture g video cursor s e).video_words, video_off s off))).0
