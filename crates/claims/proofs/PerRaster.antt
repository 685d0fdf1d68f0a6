-- Marks per raster, of every run that the two calls' own promises permit: each entry, their sum, a raster that the cursor covers, one word
-- replaced, 18 exactly when, and that kept entries never drift. And that there are such runs.
use Prim.Native.Nat.{ℕ, zero, suc, ◌+◌, ◌*◌, ◌/◌, ◌%◌, ◌<◌, ◌≤◌}
use mathlib.Core.Bool.{true, false, not}
use mathlib.Core.List.{List, [], ◌∷◌, ◌++◌}
use mathlib.Core.Logic.{◌↔◌, ◌≢◌, inl, inr}
use mathlib.Core.Path.{◌≡◌, refl, sym, ◌∙◌, ap}
use native.Mathlib.Omega.{arith}
use borrow.Author.Tests.{eq-eqb, ne_eqb}
use lib.Dec.{ltb, eqb}
use lib.ListN.{length, get_or, set}
use Rattle.buffers.proofs.Paints.{Paints, length_painted, paints_of}
use Rattle.buffers.proofs.Split.{lt_or_le}
use Rattle.buffers.proofs.Tests.{and_split, or_neither, no}
use Rattle.refusals.specs.Table.{Told, Why, why, given, refused, row}
use Rattle.std.specs.Prelude.{Ok}
use Rattle.refusals.proofs.Tables.{passes_first, passes_given}
use Rattle.registers.specs.Record.{one_of}
use Rattle.registers.specs.Setting.{setting_of}
use Rattle.registers.specs.declared.record.Registers.{Registers}
use Rattle.registers.specs.declared.setting.Setting.{Setting}
use Rattle.registers.specs.inner.Accepted.{Accepted}
use Rattle.colours.specs.Cells.{cell_code}
use Rattle.cells.specs.Cell.{in_display, covered, plain_code, code, cell}
use Rattle.cells.specs.Picture.{picture_table, picture_told}
use Rattle.cells.proofs.Pictures.{picture_told_holds, picture_setting}
use Rattle.cells.proofs.Regions.{plain_five, code_five, cell_code_holds}
use Rattle.marks.specs.Extremes.{least_of, greatest_of}
use Rattle.marks.specs.Marks.{marks_of}
use Rattle.marks.specs.Summaries.{raster_marks, least_grey, greatest_grey, entry_of, entry_number, displayed_rasters, entries_length}
use Rattle.marks.specs.Summaries.{summaries_leaves, replace_told, video_leaves, replace_leaves}
use Rattle.marks.specs.Series.{Replacement, KeptEntries, kept_after}
use Rattle.marks.proofs.Calls.{summaries_given, replace_refused, replace_outside, replace_short, replace_given}
use Rattle.marks.proofs.Kept.{taken_video, taken_numbers, replaced_entry, earlier_kept, later_kept, series_length, stays_fresh, fresh_sum}
use Rattle.marks.proofs.Replacing.{word_displayed}
use Rattle.marks.proofs.Taken.{given_summaries, summaries_same, replace_taken}
use Rattle.marks.proofs.Told.{marks_told_holds}
use Rattle.marks.proofs.Totals.{total_none}
use Rattle.claims.specs.Calls.{Every, Ran, setting_numbers, OneOf}
use Rattle.claims.specs.Views as call
use Rattle.claims.specs.Views.{SummariesRun, ReplaceRun}
use Rattle.claims.specs.PerRaster.{HasEntry, EntriesMade, counts_in, SameMarks, CoveredRaster, raster_in, WordReplaced, RanOn, ReplaceSeries}
use Rattle.claims.specs.PerRaster.{list_after, numbers_after, Afresh, RightEntries}
use Rattle.claims.proofs.Refusals.{summaries_refuses}
use Rattle.claims.proofs.Runs.{of_run, lent, lent_out}
use Rattle.claims.proofs.Tables.{by_table}

-- The three numbers of an entry, by their places.
module _ (g : Registers) (video cursor : List ℕ) (threshold r : ℕ) where
  has_entry : (list : List ℕ)
      → ((k : ℕ) → 3 * r ≤ k → k < 3 * r + 3 → get_or list k 0 ≡ entry_number g (setting_of g) video cursor threshold k)
      → HasEntry g video cursor threshold r list
  unfolding entry_number entry_of
  has_entry list h =
      let zeroth : 3 * r / 3 ≡ r = omega arith in
      let first : (3 * r + 1) / 3 ≡ r = omega arith in
      let second : (3 * r + 2) / 3 ≡ r = omega arith in
      let nought : 3 * r % 3 ≡ 0 = omega arith in
      let one : (3 * r + 1) % 3 ≡ 1 = omega arith in
      let two : (3 * r + 2) % 3 ≡ 2 = omega arith in
      record {
        count = h (3 * r) (omega arith) (omega arith) ∙ rw (zeroth, nought);
        least = h (3 * r + 1) (omega arith) (omega arith) ∙ rw (first, one);
        greatest = h (3 * r + 2) (omega arith) (omega arith) ∙ rw (second, two);
      }

-- Each entry: of every displayed raster its three numbers, and every number behind them as it was.
pub each_entry : Every call.summaries λ run. run.answer ≡ given tt → EntriesMade run
unfolding summaries_leaves
each_entry κs a x s p e =
    let run : SummariesRun = (call.summaries).seen κs a x s in
    let g = run.registers in
    let rule : ℕ → ℕ = entry_number g (setting_of g) run.video run.cursor run.threshold in
    let told = sym p.0 ∙ e in
    let room = (given_summaries g run.video run.cursor (length run.before) told).1 in
    let paints : Paints 0 run.before run.after 0 (entries_length (setting_of g)) rule = paints_of room (p.1 ∙ rw told) in
    record {
      long = paints.len;
      each = λ r l. has_entry g run.video run.cursor run.threshold r run.after (λ k h q. paints.on k (omega arith) (omega arith));
      beyond = paints.high;
    }

-- The sum: the counts of all entries add up to the frame's marks,
pub entries_sum : Every call.summaries λ run. run.answer ≡ given tt
    → counts_in run.registers run.after ≡ marks_of run.registers (setting_of run.registers) run.video run.cursor run.threshold
entries_sum κs a x s p e =
    let run : SummariesRun = (call.summaries).seen κs a x s in
    let g = run.registers in
    ap (counts_in g) p.1 ∙ fresh_sum g run.cursor run.threshold run.before run.video (sym p.0 ∙ e)

-- which is what the mark count of the same picture gives.
pub sum_counted : Every call.summaries λ run. Every call.marks λ count. run.answer ≡ given tt → SameMarks run count
    → count.answer ≡ given (counts_in run.registers run.after)
sum_counted κs a x s p κs' a' x' s' p' e same =
    let run : SummariesRun = (call.summaries).seen κs a x s in
    let g = run.registers in
    let short = row 13 (ltb (length run.before) (entries_length (setting_of g))) 0 ∷ [] in
    let picture = passes_first (picture_table g run.video run.cursor) short ((summaries_refuses κs a x s p).0.given_when.0 e) in
    p' ∙ rw (same.registers_are, same.video_is, same.cursor_is, same.threshold_is, entries_sum κs a x s p e)
    (marks_told_holds g run.video run.cursor run.threshold ∙ passes_given _ (picture_table g run.video run.cursor) picture)

-- A raster of which no cell has code 5 has 0, 255 and 0.
least_none : (f : ℕ → ℕ) (n : ℕ) → ((k : ℕ) → k < n → f k ≡ 255) → least_of f n ≡ 255
unfolding least_of
least_none f zero e = refl
least_none f (suc n) e = rw (least_none f n (λ k l. e k (omega arith)), e n (omega arith))

greatest_none : (f : ℕ → ℕ) (n : ℕ) → ((k : ℕ) → k < n → f k ≡ 0) → greatest_of f n ≡ 0
unfolding greatest_of
greatest_none f zero e = refl
greatest_none f (suc n) e = rw (greatest_none f n (λ k l. e k (omega arith)), e n (omega arith))

module _ (g : Registers) (s : Setting) (video cursor : List ℕ) (y : ℕ) where
  pub none_of_code_5 : (threshold : ℕ) → ((x : ℕ) → x < s.n.0 → cell_code (cell g s video cursor x y) ≢ 5)
      → (raster_marks g s video cursor threshold y ≡ 0) × (least_grey g s video cursor y ≡ 255) × (greatest_grey g s video cursor y ≡ 0)
  unfolding raster_marks least_grey greatest_grey
  none_of_code_5 threshold h =
      let other : (x : ℕ) → x < s.n.0 → eqb (cell_code (cell g s video cursor x y)) 5 ≡ false =
      λ x l. ne_eqb (cell_code (cell g s video cursor x y)) 5 (h x l) in (
        total_none _ s.n.0 (λ x l. rw (other x l)),
        least_none _ s.n.0 (λ x l. rw (other x l)),
        greatest_none _ s.n.0 (λ x l. rw (other x l)),
      )

  -- So has one whose display positions the cursor covers all.
  all_covered : Accepted s → ((x : ℕ) → in_display s x y ≡ true → covered s cursor x y ≡ true)
      → (x : ℕ) → x < s.n.0 → cell_code (cell g s video cursor x y) ≢ 5
  all_covered a c x l e =
      let five : eqb (code s cursor x y) 5 ≡ true = eq-eqb (code s cursor x y) 5 (sym (cell_code_holds g s video cursor x y) ∙ e) in
      let h = and_split (not (covered s cursor x y)) (eqb (plain_code s x y) 5) (sym (code_five s x y cursor) ∙ five) in
      let under = c x (sym (plain_five s a x y) ∙ h.1) in
      no (sym (ap not under) ∙ h.0)

pub covered_entry : Every call.summaries λ run. run.answer ≡ given tt → (r : ℕ) → r < displayed_rasters (setting_of run.registers)
    → CoveredRaster run.registers run.cursor r
    → (get_or run.after (3 * r) 0 ≡ 0) × (get_or run.after (3 * r + 1) 0 ≡ 255) × (get_or run.after (3 * r + 2) 0 ≡ 0)
covered_entry κs a x s p e r l c =
    let run : SummariesRun = (call.summaries).seen κs a x s in
    let g = run.registers in
    let y = (setting_of g).vds.0 + r in
    let picture = (given_summaries g run.video run.cursor (length run.before) (sym p.0 ∙ e)).0 in
    let entry = (each_entry κs a x s p e).each r l in
    let none = none_of_code_5 g (setting_of g) run.video run.cursor y run.threshold
    (all_covered g (setting_of g) run.video run.cursor y picture.accepted c) in
    (entry.count ∙ none.0, entry.least ∙ none.1, entry.greatest ∙ none.2)

-- One word replaced.
pub entry_replaced : Every call.replace λ run. run.answer ≡ given tt → WordReplaced run
entry_replaced κs a x s p e =
    let run : ReplaceRun = (call.replace).seen κs a x s in
    let g = run.registers in
    let told = sym p.0 ∙ e in
    let taken = replace_taken g run.video run.cursor run.index (length run.before) told in
    let list = p.1.0 ∙ taken_video g run.video run.cursor run.threshold run.index run.word run.before told in
    let left : (k : ℕ) → get_or run.after k 0
    ≡ get_or (replace_leaves g run.video run.cursor run.threshold run.index run.word run.before) k 0 =
    λ k. ap (λ (l : List ℕ). get_or l k 0) p.1.1 in
    record {
      list = list;
      displays = word_displayed (setting_of g) taken.picture.accepted run.index taken.inside;
      long = ap length (p.1.1 ∙ taken_numbers g run.video run.cursor run.threshold run.index run.word run.before told)
          ∙ length_painted run.before _ _ _;
      entry = has_entry g run.list run.cursor run.threshold (raster_in run) run.after
          (λ k l h. left k ∙ replaced_entry g run.video run.cursor run.threshold run.index run.word run.before told k l h ∙ rw list);
      others = λ k h. elim (lt_or_le k (3 * raster_in run)) [
        | inl l ↦ left k ∙ earlier_kept g run.video run.cursor run.threshold run.index run.word run.before told k l
        | inr l ↦ left k ∙ later_kept g run.video run.cursor run.threshold run.index run.word run.before told k (omega (arith, h))
      ];
    }

-- 18 exactly when: the picture is given, and the index is not below the length of its list. No row of the picture answers 18.
none_of : (n : ℕ) (ms : List ℕ) → one_of ms n ≡ false → OneOf n ms → ⊥
none_of n [] e o = o
none_of n (m ∷ ms) e (inl q) = no (sym (or_neither (eqb m n) (one_of ms n) e).0 ∙ eq-eqb m n (sym q))
none_of n (m ∷ ms) e (inr o) = none_of n ms (or_neither (eqb m n) (one_of ms n) e).1 o

-- What a refusal carries; nothing where there is none.
why_told : Told (Unit {0}) → Why
why_told (given u) = why 0 0
why_told (refused w) = w

number_told : Told (Unit {0}) → ℕ
number_told t = (why_told t).number

module _ (g : Registers) (video cursor : List ℕ) (index : ℕ) (before : List ℕ) where
  not_the_picture : picture_told g video cursor ≢ refused (why 18 0)
  not_the_picture e =
      none_of 18 (setting_numbers ++ (11 ∷ [])) refl
      ((by_table (setting_of g) (picture_table g video cursor) (picture_told_holds g video cursor)).refused_with (why 18 0) e)

  outside : (t : Told Setting) → picture_told g video cursor ≡ t → replace_told g video cursor index (length before) ≡ refused (why 18 0)
      → (picture_told g video cursor ≡ given (setting_of g)) × (length video ≤ index)
  unfolding why_told number_told
  outside (refused w) e h = absurd (not_the_picture (e ∙ ap refused (ap why_told ((replace_refused g video cursor 0 before index 0 w e).0 ∙ h))))
  outside (given s) e h = (
    e ∙ ap given (picture_setting g video cursor s e),
    elim (lt_or_le index (length video)) [
      | inl here ↦ elim (lt_or_le (length before) (entries_length s)) [
        | inl short ↦ let told = ap number_told ((replace_short g video cursor 0 before index 0 s e here short).0 ∙ h) in absurd (omega (arith, told))
        | inr room ↦ let told = ap number_told (sym (replace_given g video cursor 0 before index 0 s e here room) ∙ h) in absurd (omega (arith, told))
      ]
      | inr past ↦ past
    ],
  )

pub outside_exactly : Every call.replace λ run. (run.answer ≡ refused (why 18 0))
    ↔ ((picture_told run.registers run.video run.cursor ≡ given (setting_of run.registers)) × (length run.video ≤ run.index))
outside_exactly κs a x s p =
    let run : ReplaceRun = (call.replace).seen κs a x s in
    let g = run.registers in (
      λ e. outside g run.video run.cursor run.index run.before _ refl (sym p.0 ∙ e),
      λ h. p.0 ∙ sym (replace_outside g run.video run.cursor run.threshold run.before run.index run.word (setting_of g) h.0 h.1).0,
    )

-- Kept entries never drift: what a replacement leaves of entries that are those of their list are those of the list that it leaves.
module _ (g : Registers) (cursor : List ℕ) (threshold : ℕ) (out : List ℕ) where
  left_by_holds : {video kept : List ℕ} {run : ReplaceRun} → RanOn g cursor threshold video kept run
      → (run.list ≡ video_leaves g video cursor run.index run.word (length kept))
      × (run.after ≡ replace_leaves g video cursor threshold run.index run.word kept)
  left_by_holds {run = run} r =
      let left = of_run call.replace (λ seen.
      (seen.list ≡ video_leaves seen.registers seen.video seen.cursor seen.index seen.word (length seen.before))
      × (seen.after ≡ replace_leaves seen.registers seen.video seen.cursor seen.threshold seen.index seen.word seen.before))
      (λ κs a x s p. p.1) run r.ran in (
        left.0 ∙ rw (r.registers_are, r.video_is, r.cursor_is, r.numbers_are),
        left.1 ∙ rw (r.registers_are, r.video_is, r.cursor_is, r.threshold_is, r.numbers_are),
      )

  series_fresh : (video kept : List ℕ) (runs : List ReplaceRun) → ReplaceSeries g cursor threshold video kept runs
      → kept ≡ summaries_leaves g video cursor threshold out
      → (numbers_after kept runs ≡ summaries_leaves g (list_after video runs) cursor threshold out) × (length (list_after video runs) ≡ length video)
  unfolding kept_after
  series_fresh video kept [] c e = (e, refl)
  series_fresh video kept (run ∷ runs) c e =
      let start : KeptEntries = record { video = video; numbers = kept } in
      let one : List Replacement = record { index = run.index; word = run.word } ∷ [] in
      let left = left_by_holds c.0 in
      let rest = series_fresh run.list run.after runs c.1 (left.1 ∙ rw left.0 (stays_fresh g cursor threshold out start one e)) in
      (rest.0, rest.1 ∙ rw left.0 (series_length g cursor threshold start one))

pub never_drifts : Every call.summaries λ first. (runs : List ReplaceRun)
    → ReplaceSeries first.registers first.cursor first.threshold first.video first.after runs
    → Every call.summaries λ last. Afresh first (list_after first.video runs) last
    → numbers_after first.after runs ≡ last.after
never_drifts κs a x s p runs series κs' a' x' s' p' again =
    let first : SummariesRun = (call.summaries).seen κs a x s in
    (series_fresh first.registers first.cursor first.threshold first.before first.video first.after runs series p.1).0
    ∙ sym (p'.1 ∙ rw (again.registers_are, again.cursor_is, again.threshold_is, again.video_is, again.numbers_were))

-- So the counts that are kept add up to the marks of the list as it then is.
pub kept_sum : Every call.summaries λ first. first.answer ≡ given tt → (runs : List ReplaceRun)
    → ReplaceSeries first.registers first.cursor first.threshold first.video first.after runs
    → counts_in first.registers (numbers_after first.after runs)
    ≡ marks_of first.registers (setting_of first.registers) (list_after first.video runs) first.cursor first.threshold
kept_sum κs a x s p e runs series =
    let first : SummariesRun = (call.summaries).seen κs a x s in
    let g = first.registers in
    let list = list_after first.video runs in
    let end = series_fresh g first.cursor first.threshold first.before first.video first.after runs series p.1 in
    ap (counts_in g) end.0
    ∙ fresh_sum g first.cursor first.threshold first.before list
    (summaries_same g first.video first.cursor list (length first.before) end.1 ∙ sym p.0 ∙ e)

-- Asked rightly, each of the two calls has a run: what is said of every run is not said of none.
pub summaries_run : (g : Registers) (video cursor : List ℕ) (threshold : ℕ) (before : List ℕ) → RightEntries g video cursor before
    → Ran call.summaries (record {
      registers = g;
      video = video;
      cursor = cursor;
      threshold = threshold;
      answer = given tt;
      before = before;
      after = summaries_leaves g video cursor threshold before;
    })
unfolding lent lent_out
summaries_run g video cursor threshold before r = record {
  lifetimes = ([], ([], ([], tt)));
  arguments = (g, (lent video, (lent cursor, (threshold, (lent_out before, tt)))));
  answer = Ok tt;
  exit = (g, (lent video, (lent cursor, (threshold, (lent_out (summaries_leaves g video cursor threshold before), tt)))));
  promise = (sym (summaries_given g video cursor threshold before (setting_of g) r.picture r.room), refl);
  is = refl;
}

pub replace_run : (g : Registers) (video cursor : List ℕ) (threshold index word : ℕ) (before : List ℕ) → RightEntries g video cursor before
    → index < length video
    → Ran call.replace (record {
      registers = g;
      video = video;
      cursor = cursor;
      threshold = threshold;
      index = index;
      word = word;
      answer = given tt;
      list = set video index word;
      before = before;
      after = replace_leaves g video cursor threshold index word before;
    })
unfolding lent lent_out
replace_run g video cursor threshold index word before r here =
    let told = replace_given g video cursor threshold before index word (setting_of g) r.picture here r.room in
    let after = replace_leaves g video cursor threshold index word before in
    record {
      lifetimes = ([], ([], ([], tt)));
      arguments = (g, (lent_out video, (lent cursor, (threshold, (index, (word, (lent_out before, tt)))))));
      answer = Ok tt;
      exit = (g, (lent_out (set video index word), (lent cursor, (threshold, (index, (word, (lent_out after, tt)))))));
      promise = (sym told, (sym (taken_video g video cursor threshold index word before told), refl));
      is = refl;
    }
