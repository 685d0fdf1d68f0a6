-- One video word replaced: every number but its raster's is that of the new list already, so the old numbers with that raster's made
-- afresh are all those of the new list.
use Prim.Native.Nat.{ℕ, ◌+◌, ◌*◌, ◌-◌, ◌/◌, ◌<◌, ◌≤◌}
use mathlib.Core.Bool.{Bool, true, false}
use mathlib.Core.List.{List}
use mathlib.Core.Logic.{◌≢◌}
use mathlib.Core.Path.{◌≡◌, refl, sym, ◌∙◌, ap, fun_ext}
use native.Mathlib.Nat.{div-lt_iff_lt-mul, add-sub_cancel_left}
use native.Mathlib.Omega.{arith}
use lib.ListN.{length, set, length-set}
use Rattle.buffers.specs.Painted.{painted}
use Rattle.buffers.proofs.Paints.{length_painted, paints_of, paints_painted, paint_within}
use Rattle.registers.specs.Setting.{display_on, raster_words, video_words}
use Rattle.registers.specs.declared.record.Registers.{Registers}
use Rattle.registers.specs.declared.setting.Setting.{Setting}
use Rattle.registers.specs.inner.Accepted.{Accepted}
use Rattle.registers.proofs.Accepted.{video_off}
use Rattle.registers.proofs.Words.{video_rasters}
use Rattle.cells.specs.inner.Known.{Picture}
use Rattle.cells.proofs.RasterWords.{bits_room}
use Rattle.cells.proofs.Replaced.{raster_replaced}
use Rattle.marks.specs.Count.{count_below}
use Rattle.marks.specs.Extremes.{least_of, greatest_of}
use Rattle.marks.specs.Marks.{is_mark}
use Rattle.marks.specs.declared.entry.Entry.{Entry}
use Rattle.marks.specs.Summaries.{grey_or, raster_marks, least_grey, greatest_grey, entry_of, entry_number, displayed_rasters, entries_length, raster_of}

pub raster_some : (s : Setting) → Accepted s → 0 < raster_words s
raster_some s a = omega (arith, bits_room s a {p = 0} (omega (arith, a.ds_de)))

-- A list with one word replaced is as long.
pub replaced_picture : (s : Setting) (video cursor : List ℕ) (index word : ℕ) → Picture s video cursor → Picture s (set video index word) cursor
replaced_picture s video cursor index word p =
    record { accepted = p.accepted; video_words = length-set video index word ∙ p.video_words; cursor_words = p.cursor_words }

module _ (s : Setting) (a : Accepted s) (index : ℕ) where
  -- A word of the frame belongs to a displayed raster.
  raster_by : (on : Bool) → display_on s ≡ on → index < video_words s → raster_of s index < displayed_rasters s
  raster_by true on h = (div-lt_iff_lt-mul (raster_some s a)).1 (omega (arith, video_rasters s a on))
  raster_by false off h = absurd (omega (arith, video_off s off))

  pub word_displayed : index < video_words s → raster_of s index < displayed_rasters s
  word_displayed h = raster_by (display_on s) refl h

  module _ (g : Registers) (video cursor : List ℕ) (threshold w : ℕ) where
    -- Every other raster's entry is what it was, and so is each of its numbers.
    pub entry_replaced : (y : ℕ) → raster_of s index ≢ y - s.vds.0
        → entry_of g s (set video index w) cursor threshold y ≡ entry_of g s video cursor threshold y
    unfolding entry_of raster_marks least_grey greatest_grey
    entry_replaced y h =
        let made : (ℕ → ℕ) → Entry =
        λ row. record {
          count = count_below (λ x. is_mark threshold (row x)) s.n.0;
          least = least_of (λ x. grey_or 255 (row x)) s.n.0;
          greatest = greatest_of (λ x. grey_or 0 (row x)) s.n.0;
        } in
        ap made (fun_ext (λ x. raster_replaced s a x y g video cursor index w (λ i. h)))

    pub number_replaced : (k : ℕ) → raster_of s index ≢ k / 3
        → entry_number g s (set video index w) cursor threshold k ≡ entry_number g s video cursor threshold k
    unfolding entry_number
    number_replaced k h = rw (entry_replaced (s.vds.0 + k / 3) (λ e. h (e ∙ add-sub_cancel_left s.vds.0 (k / 3))))

    -- The numbers of the old list, repainted where the word's raster has its own.
    pub repainted : (out : List ℕ) → index < video_words s → entries_length s ≤ length out
        → painted (painted out 0 (entries_length s) (entry_number g s video cursor threshold)) (3 * raster_of s index) (3 * raster_of s index + 3)
        (entry_number g s (set video index w) cursor threshold)
        ≡ painted out 0 (entries_length s) (entry_number g s (set video index w) cursor threshold)
    repainted out h room =
        let r = raster_of s index in
        let old = entry_number g s video cursor threshold in
        let new = entry_number g s (set video index w) cursor threshold in
        let fits : 3 * r + 3 ≤ entries_length s = omega (arith, word_displayed h) in
        paints_painted {d = 0} {f = new} room
        (paint_within new (omega arith) fits
        (λ k p q. sym (number_replaced k (λ e. omega arith))) (λ k p q. refl) (λ k p q. sym (number_replaced k (λ e. omega arith)))
        (paints_of {d = 0} {f = old} room refl)
        (paints_of {d = 0} {f = new} (rw (length_painted out 0 (entries_length s) old) (omega arith)) refl))
