-- The entry of a displayed raster by its cells and by its pixels: a code 5 cell shows the grey of its pixel, and a raster shows the pixels of
-- its display positions that are not covered.
use Prim.Native.Nat.{ℕ, zero, suc, ◌+◌, ◌-◌, ◌/◌, ◌<◌, ◌≤◌}
use mathlib.Core.Bool.{Bool, true, false, not, ◌&&◌, and-false}
use mathlib.Core.List.{List}
use mathlib.Core.Logic.{inl, inr}
use mathlib.Core.Path.{◌≡◌, refl, sym, ◌∙◌, ap}
use native.Mathlib.Nat.{zero-add}
use native.Mathlib.Omega.{arith}
use borrow.Author.Tests.{eqb-true, eq-eqb, lt-ltb, le-ltb, not-true}
use lib.Dec.{leb, eqb}
use lib.ListN.{get_or}
use Rattle.buffers.specs.Pick.{pick}
use Rattle.buffers.proofs.Split.{true_or_false, is_false, lt_or_le}
use Rattle.buffers.proofs.Tests.{and_split}
use Rattle.registers.specs.declared.record.Registers.{Registers}
use Rattle.registers.specs.declared.setting.Setting.{Setting}
use Rattle.registers.specs.inner.Accepted.{Accepted}
use Rattle.cells.specs.Pixel.{logical, position}
use Rattle.cells.specs.Cell.{in_display, covered, code, cell}
use Rattle.cells.proofs.PixelPlaces.{pixel_below}
use Rattle.cells.proofs.Regions.{cell_code_holds, cell_colour_holds, code_five, plain_five, display_inside, inside_display}
use Rattle.marks.specs.Count.{total, bit}
use Rattle.marks.specs.Extremes.{least_of, greatest_of}
use Rattle.marks.specs.Marks.{is_mark}
use Rattle.marks.specs.Summaries.{grey_in, raster_marks, least_grey, greatest_grey, entry_of}
use Rattle.marks.specs.inner.Bright.{Tabled, bright}
use Rattle.marks.specs.inner.Seen.{only, pixels_for}
use Rattle.marks.specs.inner.Shown.{grey_at, lit_by, shown_at, shown_total, seen_from, seen_grey, entry_by}
use Rattle.marks.proofs.Flags.{only_at}
use Rattle.marks.proofs.Least.{AllAmong, least_same, greatest_same, pixels_enough, pixels_most}
use Rattle.marks.proofs.Totals.{total_as, total_window}

-- Some term of a sum that is not 0 is not 0; and a term that is not 0 makes a sum that is not.
pub record Term (f : ℕ → ℕ) (n : ℕ) : Type 0 where
  pub at : ℕ
  pub low : at < n
  pub some : 0 < f at

some_term : (f : ℕ → ℕ) (n : ℕ) → 0 < total f n → Term f n
unfolding total
some_term f zero l = absurd (omega arith)
some_term f (suc n) l =
    elim (lt_or_le 0 (f n)) [
      | inl h ↦ record { at = n; low = omega arith; some = h }
      | inr h ↦
          let t = some_term f n (omega arith) in
          record { at = t.at; low = omega (arith, t.low); some = t.some }
    ]

term_some : (f : ℕ → ℕ) (n k : ℕ) → k < n → 0 < f k → 0 < total f n
unfolding total
term_some f zero k l h = absurd (omega arith)
term_some f (suc n) k l h =
    elim (lt_or_le k n) [
      | inl m ↦ omega (arith, term_some f n k m h)
      | inr m ↦ let e : k ≡ n = omega arith in let here : 0 < f n = rw e at h in omega arith
    ]

logical_for : (s : Setting) (video : List ℕ) → Accepted s → (x y : ℕ) → logical s video x y < pixels_for s.depth
logical_for s video a x y = omega (arith, pixel_below video s.depth (position s x y), pixels_enough a.depth)

logical_below : (s : Setting) (video : List ℕ) → Accepted s → (x y : ℕ) → logical s video x y < 256
logical_below s video a x y = omega (arith, logical_for s video a x y, pixels_most s.depth)

bit_some : (t : Bool) → 0 < bit t → t ≡ true
bit_some true h = refl
bit_some false h = absurd (omega arith)

-- A display position of raster y that is not covered and has pixel q.
record Shows (s : Setting) (video cursor : List ℕ) (y q : ℕ) : Type 0 where
  at : ℕ
  low : at < s.de.0 - s.ds.0
  clear : covered s cursor (s.ds.0 + at) y ≡ false
  same : logical s video (s.ds.0 + at) y ≡ q

-- Bright by its grey in a table, a pixel is bright.
pub lit_bright : (g : Registers) (d threshold : ℕ) {greys pixels : List ℕ} → Tabled greys 256 (grey_at g d) → Tabled pixels 256 (lit_by greys threshold)
    → Tabled pixels 256 (bright g d threshold)
lit_bright g d threshold t u = record { len = u.len; on = λ p l. u.on p l ∙ ap (λ v. bit (leb threshold v)) (t.on p l) }

module _ (g : Registers) (s : Setting) (video cursor : List ℕ) (a : Accepted s) (y : ℕ) where
  module _ (x : ℕ) where
    five : eqb (cell g s video cursor x y / 8192) 5 ≡ (not (covered s cursor x y) && in_display s x y)
    five =
        ap (λ c. eqb c 5) (cell_code_holds g s video cursor x y) ∙ code_five s x y cursor
        ∙ ap (λ t. not (covered s cursor x y) && t) (plain_five s a x y)

    -- A cell that is covered, or lies outside the display, has no grey.
    grey_none : not (covered s cursor x y) && in_display s x y ≡ false → (none : ℕ) → grey_in g s video cursor none y x ≡ none
    grey_none e none = rw (five, e)

    -- Any other has that of its pixel.
    grey_pixel : not (covered s cursor x y) && in_display s x y ≡ true → (none : ℕ)
        → grey_in g s video cursor none y x ≡ grey_at g s.depth (logical s video x y)
    grey_pixel e none =
        let five_is : code s cursor x y ≡ 5 = sym (cell_code_holds g s video cursor x y) ∙ eqb-true (cell g s video cursor x y / 8192) 5 (five ∙ e) in
        rw (five, e, cell_colour_holds g s video cursor x y, five_is)

    mark_none : (threshold : ℕ) → not (covered s cursor x y) && in_display s x y ≡ false → bit (is_mark threshold (cell g s video cursor x y)) ≡ 0
    mark_none threshold e = rw (five, e)

    mark_pixel : (threshold : ℕ) → not (covered s cursor x y) && in_display s x y ≡ true
        → bit (is_mark threshold (cell g s video cursor x y)) ≡ bit (leb threshold (grey_at g s.depth (logical s video x y)))
    mark_pixel threshold e =
        let five_is : code s cursor x y ≡ 5 = sym (cell_code_holds g s video cursor x y) ∙ eqb-true (cell g s video cursor x y / 8192) 5 (five ∙ e) in
        rw (five, e, cell_colour_holds g s video cursor x y, five_is)

  -- Of a displayed raster.
  module _ (above : s.vds.0 ≤ y) (below : y < s.vde.0) where
    here : (p : ℕ) → p < s.de.0 - s.ds.0 → in_display s (s.ds.0 + p) y ≡ true
    here p l = inside_display s (s.ds.0 + p) y (record { left = omega arith; right = omega arith; above = above; below = below })

    outside : (x : ℕ) → (s.ds.0 ≤ x → x < s.de.0 → ⊥) → not (covered s cursor x y) && in_display s x y ≡ false
    outside x h =
        rw (is_false (in_display s x y) (λ e. let d = display_inside s x y e in h d.left d.right)) (and-false (not (covered s cursor x y)))

    module _ (threshold : ℕ) (pixels : List ℕ) (t : Tabled pixels 256 (bright g s.depth threshold)) where
      mark_shown : (p : ℕ) → p < s.de.0 - s.ds.0
          → bit (is_mark threshold (cell g s video cursor (s.ds.0 + p) y)) ≡ shown_at s video cursor pixels y p
      unfolding shown_at
      mark_shown p l = by (covered s cursor (s.ds.0 + p) y) refl
        where
          by : (c : Bool) → covered s cursor (s.ds.0 + p) y ≡ c
              → bit (is_mark threshold (cell g s video cursor (s.ds.0 + p) y))
              ≡ pick c 0 (get_or pixels (logical s video (s.ds.0 + p) y) 0)
          by true e = mark_none (s.ds.0 + p) threshold (rw e)
          by false e =
              mark_pixel (s.ds.0 + p) threshold (rw (e, here p l))
              ∙ sym (t.on (logical s video (s.ds.0 + p) y) (logical_below s video a (s.ds.0 + p) y))

      pub marks_shown : raster_marks g s video cursor threshold y ≡ shown_total s video cursor pixels y 0 (s.de.0 - s.ds.0)
      unfolding raster_marks shown_total
      marks_shown =
          let f : ℕ → ℕ = λ x. bit (is_mark threshold (cell g s video cursor x y)) in
          total_window f s.ds.0 (s.de.0 - s.ds.0) s.n.0
          (record { low = λ x l. mark_none x threshold (outside x (λ p q. omega arith)); high = λ x l. mark_none x threshold (outside x (λ p q. omega arith)) })
          (λ x l. mark_none x threshold (outside x (λ p q. omega (arith, a.de_be, a.be_n))))
          ∙ total_as (λ p. f (s.ds.0 + p)) (λ p. shown_at s video cursor pixels y (0 + p)) (s.de.0 - s.ds.0)
          (λ p l. mark_shown p l ∙ ap (shown_at s video cursor pixels y) (sym (zero-add p)))

    module _ (greys : List ℕ) (t : Tabled greys 256 (grey_at g s.depth)) where
      -- Pixel q is seen at a position that shows it,
      seen_at : (p : ℕ) → p < s.de.0 - s.ds.0 → covered s cursor (s.ds.0 + p) y ≡ false
          → 0 < seen_from s video cursor y 0 (s.de.0 - s.ds.0) (logical s video (s.ds.0 + p) y)
      unfolding shown_total shown_at
      seen_at p l e =
          let q = logical s video (s.ds.0 + p) y in
          let one : get_or (only q) q 0 ≡ 1 = only_at q q (logical_below s video a (s.ds.0 + p) y) ∙ ap bit (eq-eqb q q refl) in
          term_some (λ i. shown_at s video cursor (only q) y (0 + i)) (s.de.0 - s.ds.0) p l (rw (zero-add p, e, one) (omega arith))

      seen_grey_holds : (q none : ℕ) → q < 256 → 0 < seen_from s video cursor y 0 (s.de.0 - s.ds.0) q
          → seen_grey greys s video cursor none y q ≡ grey_at g s.depth q
      seen_grey_holds q none l h = rw (lt-ltb 0 (seen_from s video cursor y 0 (s.de.0 - s.ds.0) q) h) (t.on q l)

      -- and where it is seen, some position shows it.
      at_seen : (q : ℕ) → q < 256 → 0 < seen_from s video cursor y 0 (s.de.0 - s.ds.0) q → Shows s video cursor y q
      unfolding shown_total shown_at
      at_seen q l h =
          let w = some_term (λ i. shown_at s video cursor (only q) y (0 + i)) (s.de.0 - s.ds.0) h in
          by w (covered s cursor (s.ds.0 + w.at) y) refl
        where
          by : (w : Term (λ i. shown_at s video cursor (only q) y (0 + i)) (s.de.0 - s.ds.0)) (c : Bool)
              → covered s cursor (s.ds.0 + w.at) y ≡ c → Shows s video cursor y q
          by w true e = absurd (omega (arith, rw (zero-add w.at, e) at w.some))
          by w false e =
              let p = logical s video (s.ds.0 + w.at) y in
              let some : 0 < bit (eqb p q) = rw (zero-add w.at, e, only_at q p l) at w.some in
              record { at = w.at; low = w.low; clear = e; same = eqb-true p q (bit_some (eqb p q) some) }

      cells_pixels : AllAmong (λ none. grey_in g s video cursor none y) s.n.0 (λ none. seen_grey greys s video cursor none y) (pixels_for s.depth)
      cells_pixels x l =
          elim (true_or_false (not (covered s cursor x y) && in_display s x y)) [
            | inl e ↦
                let h = and_split (not (covered s cursor x y)) (in_display s x y) e in
                let d = display_inside s x y h.1 in
                let back : s.ds.0 + (x - s.ds.0) ≡ x = omega (arith, d.left) in
                let clear : covered s cursor (s.ds.0 + (x - s.ds.0)) y ≡ false = rw back (not-true (covered s cursor x y) h.0) in
                let seen = rw back at (seen_at (x - s.ds.0) (omega (arith, d.left, d.right)) clear) in
                inr (record {
                  at = logical s video x y;
                  low = logical_for s video a x y;
                  same = λ none. grey_pixel x e none ∙ sym (seen_grey_holds (logical s video x y) none (logical_below s video a x y) seen);
                })
            | inr e ↦ inl (grey_none x e)
          ]

      pixels_cells : AllAmong (λ none. seen_grey greys s video cursor none y) (pixels_for s.depth) (λ none. grey_in g s video cursor none y) s.n.0
      pixels_cells q l =
          let few : q < 256 = omega (arith, pixels_most s.depth) in
          elim (lt_or_le 0 (seen_from s video cursor y 0 (s.de.0 - s.ds.0) q)) [
            | inl h ↦
                let w = at_seen q few h in
                inr (record {
                  at = s.ds.0 + w.at;
                  low = omega (arith, w.low, a.de_be, a.be_n);
                  same = λ none.
                      seen_grey_holds q none few h ∙ ap (grey_at g s.depth) (sym w.same)
                      ∙ sym (grey_pixel (s.ds.0 + w.at) (rw (w.clear, here w.at w.low)) none);
                })
            | inr h ↦ inl (λ none. rw (le-ltb 0 (seen_from s video cursor y 0 (s.de.0 - s.ds.0) q) h))
          ]

      pub least_seen : least_grey g s video cursor y ≡ least_of (seen_grey greys s video cursor 255 y) (pixels_for s.depth)
      unfolding least_grey
      least_seen =
          least_same (λ none. grey_in g s video cursor none y) (λ none. seen_grey greys s video cursor none y) s.n.0 (pixels_for s.depth)
          cells_pixels pixels_cells

      pub greatest_seen : greatest_grey g s video cursor y ≡ greatest_of (seen_grey greys s video cursor 0 y) (pixels_for s.depth)
      unfolding greatest_grey
      greatest_seen =
          greatest_same (λ none. grey_in g s video cursor none y) (λ none. seen_grey greys s video cursor none y) s.n.0 (pixels_for s.depth)
          cells_pixels pixels_cells

      -- The entry by tables is the entry.
      pub entry_by_holds : (threshold : ℕ) (pixels : List ℕ) → Tabled pixels 256 (bright g s.depth threshold)
          → entry_by greys pixels s video cursor y ≡ entry_of g s video cursor threshold y
      unfolding entry_by entry_of
      entry_by_holds threshold pixels u = rw (marks_shown threshold pixels u, least_seen, greatest_seen)
