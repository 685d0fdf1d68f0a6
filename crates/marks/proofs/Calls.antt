-- The two calls per raster from the judged picture on: refused with it, refused by a row of their own, or put. The picture's table with the rows
-- behind it is the call's own, and where the call is refused lent memory is as it was.
use Prim.Native.Nat.{ℕ, ◌+◌, ◌*◌, ◌≤◌, ◌<◌}
use mathlib.Core.Path.{◌≡◌, sym, ◌∙◌}
use mathlib.Core.List.{List, [], ◌∷◌}
use borrow.Author.Tests.{lt-ltb, le-ltb, lt-leb, le-leb}
use lib.Dec.{ltb, leb}
use lib.ListN.{length, set}
use Rattle.buffers.specs.Painted.{painted}
use Rattle.refusals.specs.Table.{Told, Why, why, given, refused, row, judged, and_then}
use Rattle.registers.specs.Setting.{setting_of}
use Rattle.registers.specs.declared.record.Registers.{Registers}
use Rattle.registers.specs.declared.setting.Setting.{Setting}
use Rattle.refusals.proofs.Tables.{and_then_judged}
use Rattle.refusals.proofs.Told.{handed_on}
use Rattle.cells.specs.Picture.{picture_table, picture_told}
use Rattle.cells.proofs.Pictures.{picture_setting}
use Rattle.marks.specs.Summaries.{entries_length, entry_number, raster_of, summaries_told, summaries_leaves, replace_told, video_leaves, replace_leaves}
use Rattle.marks.proofs.Told.{summaries_told_holds, replace_told_holds}

module _ (g : Registers) (video cursor : List ℕ) (threshold : ℕ) (o : List ℕ) where
  -- First the picture, then 13.
  pub summaries_then : summaries_told g video cursor (length o)
      ≡ and_then (picture_told g video cursor) (λ s. judged (row 13 (ltb (length o) (entries_length s)) 0 ∷ []) tt)
  unfolding picture_told
  summaries_then =
      summaries_told_holds g video cursor (length o)
      ∙ sym (and_then_judged (setting_of g) (picture_table g video cursor) (λ s. row 13 (ltb (length o) (entries_length s)) 0 ∷ []) (λ s. tt))

  module _ (s : Setting) (e : picture_told g video cursor ≡ given s) where
    pub summaries_given : entries_length s ≤ length o → summaries_told g video cursor (length o) ≡ given tt
    summaries_given h = rw (summaries_then, e, le-ltb (length o) (entries_length s) h)

    pub summaries_put : (p : List ℕ) → entries_length s ≤ length o → p ≡ painted o 0 (entries_length s) (entry_number g s video cursor threshold)
        → p ≡ summaries_leaves g video cursor threshold o
    unfolding summaries_leaves
    summaries_put p h q = rw (summaries_given h, ← picture_setting g video cursor s e) q

  module _ (index word : ℕ) where
    -- First the picture, then 18 and 13.
    pub replace_then : replace_told g video cursor index (length o)
        ≡ and_then (picture_told g video cursor)
        (λ s. judged (row 18 (leb (length video) index) 0 ∷ row 13 (ltb (length o) (entries_length s)) 0 ∷ []) tt)
    unfolding picture_told
    replace_then =
        replace_told_holds g video cursor index (length o)
        ∙ sym (and_then_judged (setting_of g) (picture_table g video cursor)
        (λ s. row 18 (leb (length video) index) 0 ∷ row 13 (ltb (length o) (entries_length s)) 0 ∷ []) (λ s. tt))

    -- What the call tells, and what it leaves of the list and of the numbers.
    abbrev pub Replaced : Told (Unit {0}) → List ℕ → List ℕ → Type 0
    Replaced t list entries =
        (t ≡ replace_told g video cursor index (length o)) × (list ≡ video_leaves g video cursor index word (length o))
        × (entries ≡ replace_leaves g video cursor threshold index word o)

    pub replace_untouched : (w : Why) → replace_told g video cursor index (length o) ≡ refused w → Replaced (refused w) video o
    unfolding video_leaves replace_leaves
    replace_untouched w t = (sym t, rw t, rw t)

    pub replace_refused : (w : Why) → picture_told g video cursor ≡ refused w → Replaced (refused w) video o
    replace_refused w e = replace_untouched w (rw (replace_then, e))

    module _ (s : Setting) (e : picture_told g video cursor ≡ given s) where
      pub replace_outside : length video ≤ index → Replaced (refused (why 18 0)) video o
      replace_outside h = replace_untouched (why 18 0) (rw (replace_then, e, le-leb (length video) index h))

      module _ (here : index < length video) where
        pub replace_short : length o < entries_length s → Replaced (refused (why 13 0)) video o
        replace_short h =
            replace_untouched (why 13 0)
            (rw (replace_then, e, lt-leb (length video) index here, lt-ltb (length o) (entries_length s) h))

        pub replace_given : entries_length s ≤ length o → replace_told g video cursor index (length o) ≡ given tt
        replace_given h =
            rw (replace_then, e, lt-leb (length video) index here, le-ltb (length o) (entries_length s) h)

        pub replace_put : (p : List ℕ) → entries_length s ≤ length o
            → p ≡ painted o (3 * raster_of s index) (3 * raster_of s index + 3) (entry_number g s (set video index word) cursor threshold)
            → Replaced (given tt) (set video index word) p
        unfolding video_leaves replace_leaves
        replace_put p h q =
            (sym (replace_given h), rw (replace_given h), rw (replace_given h, ← picture_setting g video cursor s e) q)

-- What the exits of the two calls go by.
pub ruleset made = (handed_on, summaries_then)

pub ruleset replaced = (handed_on, replace_then)
