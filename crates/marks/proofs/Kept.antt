-- Kept numbers never drift: after any series of replacements they are those made afresh from the list as it then is, since one that is
-- refused changes neither, and one that is taken makes its raster's numbers afresh, where all others are those of the new list already.
use Prim.Native.Nat.{ℕ, ◌+◌, ◌*◌, ◌<◌, ◌≤◌}
use mathlib.Core.List.{List, [], ◌∷◌}
use mathlib.Core.Path.{◌≡◌, refl, sym, ◌∙◌, ap}
use native.Mathlib.Omega.{arith}
use lib.ListN.{length, get_or, set, length-set}
use Rattle.buffers.specs.Painted.{painted}
use Rattle.buffers.proofs.Paints.{Paints, length_painted, paints_of}
use Rattle.refusals.specs.Table.{Why, Told, given, refused, unless_refused}
use Rattle.registers.specs.Setting.{setting_of}
use Rattle.registers.specs.declared.record.Registers.{Registers}
use Rattle.marks.specs.Count.{total}
use Rattle.marks.specs.Marks.{marks_of}
use Rattle.marks.specs.Summaries.{displayed_rasters, entry_number, entries_length, raster_of}
use Rattle.marks.specs.Summaries.{summaries_told, summaries_leaves, replace_told, video_leaves, replace_leaves}
use Rattle.marks.specs.Series.{Replacement, KeptEntries, kept_fresh, kept_once, kept_after}
use Rattle.marks.proofs.Totals.{total_as}
use Rattle.marks.proofs.Sums.{numbers_sum}
use Rattle.marks.proofs.Replacing.{word_displayed, repainted}
use Rattle.marks.proofs.Calls.{summaries_given}
use Rattle.marks.proofs.Taken.{Taken, given_summaries, summaries_same, replace_taken}

-- One replacement, by what it tells.
module _ (g : Registers) (video cursor : List ℕ) (threshold index w : ℕ) (out : List ℕ) where
  pub refused_keeps : (why : Why) → replace_told g video cursor index (length out) ≡ refused why
      → (video_leaves g video cursor index w (length out) ≡ video) × (replace_leaves g video cursor threshold index w out ≡ out)
  unfolding video_leaves replace_leaves
  refused_keeps why e = (rw e, rw e)

  module _ (e : replace_told g video cursor index (length out) ≡ given tt) where
    pub taken_video : video_leaves g video cursor index w (length out) ≡ set video index w
    unfolding video_leaves
    taken_video = rw e

    pub taken_numbers : replace_leaves g video cursor threshold index w out
        ≡ painted out (3 * raster_of (setting_of g) index) (3 * raster_of (setting_of g) index + 3)
        (entry_number g (setting_of g) (set video index w) cursor threshold)
    unfolding replace_leaves
    taken_numbers = rw e

    taken : Taken g video cursor index (length out)
    taken = replace_taken g video cursor index (length out) e

    paints : Paints 0 out (replace_leaves g video cursor threshold index w out) (3 * raster_of (setting_of g) index)
        (3 * raster_of (setting_of g) index + 3) (entry_number g (setting_of g) (set video index w) cursor threshold)
    paints =
        let shown = word_displayed (setting_of g) taken.picture.accepted index taken.inside in
        paints_of {f = entry_number g (setting_of g) (set video index w) cursor threshold} (omega (arith, taken.fits)) taken_numbers

    -- The entry of the word's raster is made afresh from the new list, whatever was kept,
    pub replaced_entry : (k : ℕ) → 3 * raster_of (setting_of g) index ≤ k → k < 3 * raster_of (setting_of g) index + 3
        → get_or (replace_leaves g video cursor threshold index w out) k 0 ≡ entry_number g (setting_of g) (set video index w) cursor threshold k
    replaced_entry k p q = paints.on k p q

    -- and every other number is what it was, before it and after it.
    pub earlier_kept : (k : ℕ) → k < 3 * raster_of (setting_of g) index
        → get_or (replace_leaves g video cursor threshold index w out) k 0 ≡ get_or out k 0
    earlier_kept k p = paints.low k p

    pub later_kept : (k : ℕ) → 3 * raster_of (setting_of g) index + 3 ≤ k
        → get_or (replace_leaves g video cursor threshold index w out) k 0 ≡ get_or out k 0
    later_kept k p = paints.high k p

-- A replacement makes the list no longer and no shorter, and so does a series.
video_length : (g : Registers) (video cursor : List ℕ) (index w room : ℕ) → length (video_leaves g video cursor index w room) ≡ length video
unfolding video_leaves
video_length g video cursor index w room = go (replace_told g video cursor index room)
  where
    go : (t : Told (Unit {0})) → length (unless_refused t video (set video index w)) ≡ length video
    go (given u) = length-set video index w
    go (refused why) = refl

pub series_length : (g : Registers) (cursor : List ℕ) (threshold : ℕ) (kept : KeptEntries) (rs : List Replacement)
    → length (kept_after g cursor threshold kept rs).video ≡ length kept.video
unfolding kept_after
series_length g cursor threshold kept [] = refl
series_length g cursor threshold kept (r ∷ rs) =
    series_length g cursor threshold (kept_once g cursor threshold kept r) rs
    ∙ video_length g kept.video cursor r.index r.word (length kept.numbers)

module _ (g : Registers) (cursor : List ℕ) (threshold : ℕ) (out : List ℕ) where
  fresh_length : (video : List ℕ) → length (summaries_leaves g video cursor threshold out) ≡ length out
  unfolding summaries_leaves
  fresh_length video = go (summaries_told g video cursor (length out))
    where
      rule : ℕ → ℕ
      rule = entry_number g (setting_of g) video cursor threshold

      go : (t : Told (Unit {0})) → length (unless_refused t out (painted out 0 (entries_length (setting_of g)) rule)) ≡ length out
      go (given u) = length_painted out 0 (entries_length (setting_of g)) rule
      go (refused why) = refl

  fresh_held : (video : List ℕ) → summaries_told g video cursor (length out) ≡ given tt
      → summaries_leaves g video cursor threshold out ≡ painted out 0 (entries_length (setting_of g)) (entry_number g (setting_of g) video cursor threshold)
  unfolding summaries_leaves
  fresh_held video e = rw e

  -- Numbers made afresh, and then kept once, are those made afresh from the new list.
  module _ (video : List ℕ) (index w : ℕ) where
    once : (t : Told (Unit {0})) → replace_told g video cursor index (length (summaries_leaves g video cursor threshold out)) ≡ t
        → replace_leaves g video cursor threshold index w (summaries_leaves g video cursor threshold out)
        ≡ summaries_leaves g (video_leaves g video cursor index w (length (summaries_leaves g video cursor threshold out))) cursor threshold out
    once (refused why) e =
        let h = refused_keeps g video cursor threshold index w (summaries_leaves g video cursor threshold out) why e in
        h.1 ∙ ap (λ v. summaries_leaves g v cursor threshold out) (sym h.0)
    once (given u) e =
        let s = setting_of g in
        let kept = summaries_leaves g video cursor threshold out in
        let t = replace_taken g video cursor index (length kept) e in
        let room : entries_length s ≤ length out = omega (arith, t.fits, fresh_length video) in
        let old = summaries_given g video cursor threshold out (setting_of g) t.told room in
        taken_numbers g video cursor threshold index w kept e
        ∙ rw (fresh_held video old)
        (repainted s t.picture.accepted index g video cursor threshold w out t.inside room)
        ∙ sym (fresh_held (set video index w) (summaries_same g video cursor (set video index w) (length out) (length-set video index w) ∙ old))
        ∙ ap (λ v. summaries_leaves g v cursor threshold out) (sym (taken_video g video cursor threshold index w kept e))

  -- So it is after a series, from any numbers that are those of their list.
  pub stays_fresh : (kept : KeptEntries) (rs : List Replacement) → kept.numbers ≡ summaries_leaves g kept.video cursor threshold out
      → (kept_after g cursor threshold kept rs).numbers ≡ summaries_leaves g (kept_after g cursor threshold kept rs).video cursor threshold out
  unfolding kept_after
  stays_fresh kept [] e = e
  stays_fresh kept (r ∷ rs) e =
      stays_fresh (kept_once g cursor threshold kept r) rs (rw e (once kept.video r.index r.word _ refl))

  pub never_drifts : (video : List ℕ) (rs : List Replacement)
      → (kept_after g cursor threshold (kept_fresh g cursor threshold out video) rs).numbers
      ≡ summaries_leaves g (kept_after g cursor threshold (kept_fresh g cursor threshold out video) rs).video cursor threshold out
  never_drifts video rs = stays_fresh (kept_fresh g cursor threshold out video) rs refl

  -- The counts made afresh sum to the mark count, and so do those kept, to that of the list as it then is.
  pub fresh_sum : (video : List ℕ) → summaries_told g video cursor (length out) ≡ given tt
      → total (λ r. get_or (summaries_leaves g video cursor threshold out) (3 * r) 0) (displayed_rasters (setting_of g))
      ≡ marks_of g (setting_of g) video cursor threshold
  fresh_sum video e =
      let s = setting_of g in
      let h = given_summaries g video cursor (length out) e in
      let rule = entry_number g s video cursor threshold in
      total_as (λ r. get_or (summaries_leaves g video cursor threshold out) (3 * r) 0) (λ r. rule (3 * r)) (displayed_rasters s)
      (λ r l. (paints_of {d = 0} {l = out} {f = rule} h.1 (fresh_held video e)).on (3 * r) (omega arith) (omega arith))
      ∙ numbers_sum g s h.0.accepted video cursor threshold

  pub kept_sum : (video : List ℕ) (rs : List Replacement) → summaries_told g video cursor (length out) ≡ given tt
      → total (λ r. get_or (kept_after g cursor threshold (kept_fresh g cursor threshold out video) rs).numbers (3 * r) 0) (displayed_rasters (setting_of g))
      ≡ marks_of g (setting_of g) (kept_after g cursor threshold (kept_fresh g cursor threshold out video) rs).video cursor threshold
  kept_sum video rs e =
      let start = kept_fresh g cursor threshold out video in
      let end = kept_after g cursor threshold start rs in
      rw (never_drifts video rs)
      (fresh_sum end.video (summaries_same g video cursor end.video (length out) (series_length g cursor threshold start rs) ∙ e))
