-- What a displayed raster shows at its positions: a pixel wherever the cursor, which has words for it, has no pair other than 00.
use Prim.Native.Nat.{ℕ, ◌+◌, ◌*◌, ◌-◌, ◌/◌, ◌%◌, ◌^◌, ◌<◌, ◌≤◌}
use mathlib.Core.Bool.{Bool, true, false, ◌&&◌, not, and-false}
use mathlib.Core.List.{List}
use mathlib.Core.Path.{◌≡◌, refl, sym, ◌∙◌, ap}
use native.Mathlib.Omega.{arith}
use lib.Dec.{leb, ltb, eqb}
use lib.ListN.{length, get_or}
use Rattle.buffers.specs.Pick.{pick}
use Rattle.buffers.proofs.Tests.{and_split}
use Rattle.registers.specs.Setting.{cursor_words}
use Rattle.registers.specs.declared.setting.Setting.{Setting}
use Rattle.registers.specs.inner.Accepted.{Accepted}
use Rattle.registers.proofs.Accepted.{cursor_words_holds}
use Rattle.cells.specs.Pixel.{logical, cursor_pair}
use Rattle.cells.specs.Cell.{within, in_cursor, plain_code, covered}
use Rattle.cells.specs.inner.Region.{InDisplay, Reached}
use Rattle.cells.proofs.Regions.{within_true, display_bordered, reached_covered}
use Rattle.marks.specs.Count.{total}
use Rattle.marks.specs.inner.Bright.{AtMost}
use Rattle.marks.specs.inner.Seen.{only, Flagged}
use Rattle.marks.specs.inner.Shown.{shown_at, shown_from, shown_total, seen_at, seen_from}
use Rattle.marks.proofs.Flags.{flagged_none, flagged_as, flagged_join}
use Rattle.marks.proofs.Totals.{total_as, total_more, total_most, total_split}

module _ (s : Setting) (cursor : List ℕ) (x y : ℕ) where
  pub outside_clear : in_cursor s x y ≡ false → false ≡ covered s cursor x y
  unfolding covered
  outside_clear e = by (leb 4 (plain_code s x y)) (in_cursor s x y) (not (eqb (cursor_pair s cursor y (x - s.cx.0)) 0)) e
    where
      by : (a b c : Bool) → b ≡ false → false ≡ (a && b && c)
      by a b c f = rw (f, and-false a)

  module _ (a : Accepted s) (h : InDisplay s x y) (on : in_cursor s x y ≡ true) where
    pub display_reached : Reached s x y
    display_reached =
        let f = and_split (s.cursor && within s.vcs.0 s.vce.0 y) (within s.cx.0 (s.cx.0 + 32) x) on in
        let d = and_split s.cursor (within s.vcs.0 s.vce.0 y) f.0 in
        let rows = within_true s.vcs.0 s.vce.0 y d.1 in
        let columns = within_true s.cx.0 (s.cx.0 + 32) x f.1 in
        record {
          on = d.0;
          border = display_bordered s a x y h;
          cursor = record { left = columns.0; right = columns.1; above = rows.0; below = rows.1 };
        }

    pub pair_room : length cursor ≡ cursor_words s → (2 * (y - s.vcs.0) + 1 < length cursor) × (x - s.cx.0 < 32)
    pair_room e =
        let r = display_reached in
        (omega (arith, e, cursor_words_holds s r.on), omega arith)

    pub pair_covers : {pair : ℕ} → pair ≡ get_or cursor (2 * (y - s.vcs.0) + (x - s.cx.0) / 16) 0 / 2 ^ (2 * ((x - s.cx.0) % 16)) % 4
        → not (eqb pair 0) ≡ covered s cursor x y
    unfolding cursor_pair
    pair_covers e = ap (λ v. not (eqb v 0)) e ∙ sym (reached_covered s a x y cursor display_reached)

-- Display position p, by a test that tells whether it is covered.
module _ (s : Setting) (video cursor : List ℕ) (y p : ℕ) where
  module _ {test : Bool} (e : test ≡ covered s cursor (s.ds.0 + p) y) where
    pub shown_none : (pixels : List ℕ) → test ≡ true → 0 ≡ shown_at s video cursor pixels y p
    unfolding shown_at
    shown_none pixels on = rw (← e, on)

    pub shown_some : {r : ℕ} (pixels : List ℕ) → test ≡ false → r ≡ get_or pixels (logical s video (s.ds.0 + p) y) 0
        → r ≡ shown_at s video cursor pixels y p
    unfolding shown_at
    shown_some pixels off h = rw (← e, off) h

    pub seen_none : (flags : List ℕ) → test ≡ true → Flagged flags flags (seen_at s video cursor y p)
    seen_none flags on = flagged_none flags (seen_at s video cursor y p) (λ q l. sym (shown_none (only q) on))

    pub seen_some : {old new : List ℕ} → test ≡ false → Flagged old new (λ q. get_or (only q) (logical s video (s.ds.0 + p) y) 0)
        → Flagged old new (seen_at s video cursor y p)
    seen_some off f = flagged_as (λ q l. ap (ltb 0) (shown_some (only q) off refl)) f

  pub shown_most : (pixels : List ℕ) → AtMost pixels 1 → shown_at s video cursor pixels y p ≤ 1
  unfolding shown_at
  shown_most pixels m = by (covered s cursor (s.ds.0 + p) y)
    where
      by : (t : Bool) → pick t 0 (get_or pixels (logical s video (s.ds.0 + p) y) 0) ≤ 1
      by true = omega arith
      by false = m.most (logical s video (s.ds.0 + p) y)

-- Positions after others.
module _ (s : Setting) (video cursor : List ℕ) (y from : ℕ) where
  pub shown_empty : (pixels : List ℕ) (n : ℕ) → n ≡ 0 → shown_total s video cursor pixels y from n ≡ 0
  unfolding shown_total total
  shown_empty pixels n e = rw e

  pub shown_join : (pixels : List ℕ) (mid to : ℕ) → from ≤ mid → mid ≤ to
      → shown_total s video cursor pixels y from (mid - from) + shown_total s video cursor pixels y mid (to - mid)
      ≡ shown_total s video cursor pixels y from (to - from)
  unfolding shown_total
  shown_join pixels mid to l m =
      let f = shown_from s video cursor pixels y from in
      let all : mid - from + (to - mid) ≡ to - from = omega arith in
      let next : (k : ℕ) → shown_from s video cursor pixels y mid k ≡ f (mid - from + k) =
      λ k. ap (shown_at s video cursor pixels y) (omega arith) in
      ap (λ n. total f (mid - from) + n) (total_as (shown_from s video cursor pixels y mid) (λ k. f (mid - from + k)) (to - mid) (λ k k_less. next k))
      ∙ sym (total_split f (mid - from) (to - mid))
      ∙ ap (total f) all

  pub shown_more : (pixels : List ℕ) (p : ℕ) → from ≤ p
      → shown_total s video cursor pixels y from (p - from) + shown_at s video cursor pixels y p ≡ shown_total s video cursor pixels y from (p + 1 - from)
  unfolding shown_total
  shown_more pixels p l =
      let f = shown_from s video cursor pixels y from in
      let here : from + (p - from) ≡ p = omega arith in
      let next : p - from + 1 ≡ p + 1 - from = omega arith in
      ap (λ k. total f (p - from) + shown_at s video cursor pixels y k) (sym here) ∙ sym (total_more f (p - from)) ∙ ap (total f) next

  pub seen_more : {old mid new : List ℕ} (p : ℕ) → from ≤ p → Flagged old mid (seen_from s video cursor y from (p - from))
      → Flagged mid new (seen_at s video cursor y p) → Flagged old new (seen_from s video cursor y from (p + 1 - from))
  seen_more p l f h = flagged_as (λ q m. ap (ltb 0) (shown_more (only q) p l)) (flagged_join f h)

  pub shown_few : (pixels : List ℕ) (n : ℕ) → AtMost pixels 1 → shown_total s video cursor pixels y from n ≤ n
  unfolding shown_total
  shown_few pixels n m =
      omega (arith, total_most (shown_from s video cursor pixels y from) 1 n (λ k l. shown_most s video cursor y (from + k) pixels m))

-- A raster's sum is at most its positions.
pub raster_few : (s : Setting) (video cursor pixels : List ℕ) (y : ℕ) {sum : ℕ} → Accepted s → AtMost pixels 1
    → sum ≡ shown_total s video cursor pixels y 0 (s.de.0 - s.ds.0) → sum ≤ 2048
raster_few s video cursor pixels y a m e =
    omega (arith, shown_few s video cursor y 0 pixels (s.de.0 - s.ds.0) m, a.de_be, a.be_n, a.n_most)
