-- The least and the greatest by two rules that agree are the same; so flags of all the pixels that a raster shows give its entry.
use Prim.Native.Nat.{ℕ, zero, suc, ◌-◌, ◌<◌}
use mathlib.Core.Bool.{Bool, true, false}
use mathlib.Core.List.{List}
use mathlib.Core.Path.{◌≡◌, refl, ◌∙◌, ap}
use native.Mathlib.Omega.{arith}
use lib.Dec.{ltb, eqb}
use lib.ListN.{get_or}
use Rattle.buffers.specs.Pick.{pick}
use Rattle.registers.specs.declared.setting.Setting.{Setting}
use Rattle.marks.specs.Extremes.{least_of, greatest_of}
use Rattle.marks.specs.declared.entry.Entry.{Entry}
use Rattle.marks.specs.inner.Seen.{Flagged, flagged_grey, pixels_for, flagged_entry}
use Rattle.marks.specs.inner.Shown.{shown_total, seen_from, seen_grey, entry_by}
use Rattle.marks.proofs.Least.{pixels_most}

pub least_as : (f h : ℕ → ℕ) (n : ℕ) → ((k : ℕ) → k < n → f k ≡ h k) → least_of f n ≡ least_of h n
unfolding least_of
least_as f h zero e = refl
least_as f h (suc n) e = rw (least_as f h n (λ k l. e k (omega arith)), e n (omega arith))

pub greatest_as : (f h : ℕ → ℕ) (n : ℕ) → ((k : ℕ) → k < n → f k ≡ h k) → greatest_of f n ≡ greatest_of h n
unfolding greatest_of
greatest_as f h zero e = refl
greatest_as f h (suc n) e = rw (greatest_as f h n (λ k l. e k (omega arith)), e n (omega arith))

-- Raster y, by flags that were all clear before its n positions.
module _ (greys pixels : List ℕ) (s : Setting) (video cursor : List ℕ) (y : ℕ) {n : ℕ} {clear flags : List ℕ}
    (z : (q : ℕ) → get_or clear q 0 ≡ 0) (w : n ≡ s.de.0 - s.ds.0) (f : Flagged clear flags (seen_from s video cursor y 0 n)) where
  grey_as : (none q : ℕ) → q < pixels_for s.depth → flagged_grey greys flags none q ≡ seen_grey greys s video cursor none y q
  grey_as none q l =
      let seen = ltb 0 (seen_from s video cursor y 0 n q) in
      let flag : get_or flags q 0 ≡ pick seen 1 0 = f.on q (omega (arith, pixels_most s.depth)) ∙ ap (pick seen 1) (z q) in
      rw (flag, ← w) (by seen)
    where
      by : (t : Bool) → pick (eqb (pick t 1 0) 0) none (get_or greys q 0) ≡ pick t (get_or greys q 0) none
      by true = refl
      by false = refl

  pub entry_shown : {count : ℕ} {e : Entry} → count ≡ shown_total s video cursor pixels y 0 n
      → e ≡ flagged_entry greys flags (pixels_for s.depth) count
      → e ≡ entry_by greys pixels s video cursor y
  unfolding entry_by
  entry_shown h told =
      told ∙ rw (
        h,
        w,
        least_as (flagged_grey greys flags 255) (seen_grey greys s video cursor 255 y) (pixels_for s.depth) (grey_as 255),
        greatest_as (flagged_grey greys flags 0) (seen_grey greys s video cursor 0 y) (pixels_for s.depth) (grey_as 0),
      )
