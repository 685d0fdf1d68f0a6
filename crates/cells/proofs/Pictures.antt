-- A picture judged: the setting's table and row 11 are one table, so that what is given is accepted and has the words it needs;
-- and a table that goes on behind it is judged where the picture is given.
use Prim.Native.Nat.{ℕ}
use mathlib.Core.Bool.{false, not}
use mathlib.Core.List.{List, [], ◌∷◌, ◌++◌}
use mathlib.Core.Path.{◌≡◌, refl, sym, ◌∙◌, ap}
use borrow.Author.Tests.{not-false, eqb-true, eq-eqb}
use lib.Dec.{eqb}
use lib.ListN.{length}
use Rattle.buffers.proofs.Tests.{or_neither}
use Rattle.refusals.specs.Table.{given, Row, row, judged, and_then, Passes}
use Rattle.refusals.proofs.Tables.{passed, given_passes, judged_then, and_then_judged}
use Rattle.registers.specs.Setting.{setting_of, video_words, cursor_words}
use Rattle.registers.specs.Check.{check_told}
use Rattle.registers.specs.declared.record.Registers.{Registers}
use Rattle.registers.specs.declared.setting.Setting.{Setting}
use Rattle.registers.proofs.Told.{check_then, check_passes}
use Rattle.registers.proofs.Accepted.{accepted}
use Rattle.cells.specs.Picture.{words_wrong, picture_table, picture_told}
use Rattle.cells.specs.inner.Known.{Picture}

-- Row 11 is passed exactly by lists of the right lengths.
words_right : (s : Setting) (video cursor : List ℕ) → words_wrong s video cursor ≡ false
    → (length video ≡ video_words s) × (length cursor ≡ cursor_words s)
words_right s video cursor e =
    let h = or_neither (not (eqb (length video) (video_words s))) (not (eqb (length cursor) (cursor_words s))) e in
    (eqb-true _ _ (not-false _ h.0), eqb-true _ _ (not-false _ h.1))

right_words : (s : Setting) (video cursor : List ℕ) → length video ≡ video_words s → length cursor ≡ cursor_words s
    → words_wrong s video cursor ≡ false
right_words s video cursor p q = rw (eq-eqb (length video) (video_words s) p, eq-eqb (length cursor) (cursor_words s) q)

module _ (g : Registers) (video cursor : List ℕ) where
  -- What a picture tells is its whole table judged.
  pub picture_told_holds : picture_told g video cursor ≡ judged (picture_table g video cursor) (setting_of g)
  unfolding picture_told
  picture_told_holds = refl

  -- First the setting, then 11.
  pub picture_then : picture_told g video cursor ≡ and_then (check_told g) (λ s. judged (row 11 (words_wrong s video cursor) 0 ∷ []) s)
  unfolding picture_told
  picture_then = check_then g (λ s. row 11 (words_wrong s video cursor) 0 ∷ []) (λ s. s)

  -- A table that goes on behind the picture's, and the picture's own table judged for something else.
  pub picture_more : {A : Type 0} (a : A) (more : List Row)
      → judged (picture_table g video cursor ++ more) a ≡ and_then (picture_told g video cursor) (λ s. judged more a)
  unfolding picture_told
  picture_more a more = sym (and_then_judged (setting_of g) (picture_table g video cursor) (λ s. more) (λ s. a))

  pub picture_for : {A : Type 0} (a : A) → judged (picture_table g video cursor) a ≡ and_then (picture_told g video cursor) (λ s. given a)
  unfolding picture_told
  picture_for a = judged_then (setting_of g) a (picture_table g video cursor)

  -- A picture that is given.
  module _ (s : Setting) (e : picture_told g video cursor ≡ given s) where
    picture_passes : Passes (picture_table g video cursor) × (setting_of g ≡ s)
    unfolding picture_told
    picture_passes = given_passes (setting_of g) (picture_table g video cursor) s e

    pub picture_setting : s ≡ setting_of g
    picture_setting = sym picture_passes.1

    pub picture_checked : check_told g ≡ given s
    picture_checked =
        check_passes g (row 11 (words_wrong (setting_of g) video cursor) 0 ∷ []) picture_passes.0 ∙ ap given picture_passes.1

    picture_words : words_wrong s video cursor ≡ false
    picture_words = rw picture_setting (passed 11 (picture_table g video cursor) picture_passes.0)

    pub given_picture : Picture s video cursor
    given_picture =
        let w = words_right s video cursor picture_words in
        record { accepted = accepted g s picture_checked; video_words = w.0; cursor_words = w.1 }

  -- And one whose setting is accepted and whose lists are as long as it needs is given.
  pub picture_given : (s : Setting) → check_told g ≡ given s → length video ≡ video_words s → length cursor ≡ cursor_words s
      → picture_told g video cursor ≡ given s
  picture_given s e p q = picture_then ∙ rw (e, right_words s video cursor p q)
