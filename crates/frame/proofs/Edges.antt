-- Cells outside the display: stretch by stretch, in a line, and from one raster to the next.
use Prim.Native.Nat.{ℕ, ◌+◌, ◌<◌, ◌≤◌}
use mathlib.Core.Bool.{false, true≢false, ◌||◌}
use mathlib.Core.Path.{◌≡◌, refl, sym, ◌∙◌}
use mathlib.Core.List.{List}
use mathlib.Core.Logic.{inl, inr}
use native.Mathlib.Omega.{arith}
use borrow.Author.Tests.{lt-ltb, le-ltb, le-leb, lt-leb, eqb-false}
use lib.Dec.{ltb, leb, eqb}
use lib.ListN.{length, get_or}
use Rattle.buffers.proofs.Tests.{or_neither}
use Rattle.buffers.proofs.Split.{lt_or_le, true_or_false, is_false}
use Rattle.buffers.proofs.Paints.{Paints, paint_as, paint_next}
use Rattle.registers.specs.declared.setting.Setting.{Setting}
use Rattle.registers.specs.inner.Accepted.{Accepted}
use Rattle.cells.specs.Cell.{within, in_display, in_border}
use Rattle.cells.specs.inner.Region.{InBorder}
use Rattle.cells.proofs.Regions.{true_within, border_inside, inside_border, display_inside, inside_display, border_shown}
use Rattle.frame.specs.inner.Ink.{blank_of, edge_ink, plain_ink, lined_ink}
use Rattle.frame.specs.inner.Lines.{Edged, anew}
use Rattle.frame.proofs.PlainCells.{sync_ink, blank_ink, border_ink, display_ink_holds}

module _ (s : Setting) (pens : List ℕ) (x y : ℕ) where
  sync_edge : x < s.hs.0 → edge_ink s pens y x ≡ blank_of s y + 8192
  unfolding edge_ink
  sync_edge h = rw (lt-ltb x s.hs.0 h)

  border_edge : Accepted s → InBorder s x y → edge_ink s pens y x ≡ get_or pens 0 0
  unfolding edge_ink
  border_edge r i = rw (le-ltb x s.hs.0 (border_shown s r x y i).0, inside_border s x y i)

  blank_edge : s.hs.0 ≤ x → (InBorder s x y → ⊥) → edge_ink s pens y x ≡ blank_of s y
  unfolding edge_ink
  blank_edge h out = rw (le-ltb x s.hs.0 h, is_false (in_border s x y) (λ e. out (border_inside s x y e)))

  module _ (r : Accepted s) (table video : List ℕ) where
    edge_plain : in_display s x y ≡ false → plain_ink s pens table video y x ≡ edge_ink s pens y x
    edge_plain none =
        elim (lt_or_le x s.hs.0) [
          | inl h ↦ sync_ink s pens table video x y h ∙ sym (sync_edge h)
          | inr h ↦
              elim (true_or_false (in_border s x y)) [
                | inl e ↦
                    let i = border_inside s x y e in
                    border_ink s pens table video x y r i (λ d. true≢false (sym (inside_display s x y d) ∙ none)) ∙ sym (border_edge r i)
                | inr e ↦
                    let out : InBorder s x y → ⊥ = λ i. true≢false (sym (inside_border s x y i) ∙ e) in
                    blank_ink s pens table video x y r h out ∙ sym (blank_edge h out)
              ]
        ]

    -- The rule over a right line is the rule.
    pub lined_plain : (line : List ℕ) → x < s.n.0 → Edged s pens y line → lined_ink s line table video y x ≡ plain_ink s pens table video y x
    unfolding lined_ink
    lined_plain line h edged =
        elim (true_or_false (in_display s x y)) [
          | inl e ↦ rw e (sym (display_ink_holds s pens table video x y r (display_inside s x y e)))
          | inr e ↦ rw e (edged.held x h ∙ sym (edge_plain e))
        ]

-- Neither side of a place changes but at the place itself.
same_below : (m y : ℕ) → eqb (y + 1) m ≡ false → ltb (y + 1) m ≡ ltb y m
same_below m y h =
    let no = eqb-false (y + 1) m h in
    elim (lt_or_le (y + 1) m) [
      | inl l ↦ lt-ltb (y + 1) m l ∙ sym (lt-ltb y m (omega arith))
      | inr g ↦ le-ltb (y + 1) m g ∙ sym (le-ltb y m (elim (lt_or_le m (y + 1)) [ inl l ↦ omega arith | inr e ↦ absurd (no (omega arith)) ]))
    ]

same_above : (m y : ℕ) → eqb (y + 1) m ≡ false → leb m (y + 1) ≡ leb m y
same_above m y h =
    let no = eqb-false (y + 1) m h in
    elim (lt_or_le y m) [
      | inl l ↦ lt-leb m (y + 1) (elim (lt_or_le (y + 1) m) [ inl g ↦ g | inr e ↦ absurd (no (omega arith)) ]) ∙ sym (lt-leb m y l)
      | inr g ↦ le-leb m (y + 1) (omega arith) ∙ sym (le-leb m y g)
    ]

-- The first line is made anew, whatever it held.
pub first_edged : (s : Setting) (pens line : List ℕ) (first : ℕ) → anew s first first ≡ false → Edged s pens first line
first_edged s pens line first e =
    let p = or_neither (eqb first first || eqb first s.vs.0 || eqb first s.vbs.0) (eqb first s.vbe.0) e in
    let q = or_neither (eqb first first || eqb first s.vs.0) (eqb first s.vbs.0) p.0 in
    absurd (eqb-false first first (or_neither (eqb first first) (eqb first s.vs.0) q.0).0 refl)

module _ (s : Setting) (pens : List ℕ) (first y : ℕ) (same : anew s first (y + 1) ≡ false) where
  edge_next : (x : ℕ) → edge_ink s pens (y + 1) x ≡ edge_ink s pens y x
  unfolding edge_ink
  edge_next x =
      let p = or_neither (eqb (y + 1) first || eqb (y + 1) s.vs.0 || eqb (y + 1) s.vbs.0) (eqb (y + 1) s.vbe.0) same in
      let q = or_neither (eqb (y + 1) first || eqb (y + 1) s.vs.0) (eqb (y + 1) s.vbs.0) p.0 in
      let t = or_neither (eqb (y + 1) first) (eqb (y + 1) s.vs.0) q.0 in
      rw (same_below s.vs.0 y t.1, same_above s.vbs.0 y q.1, same_below s.vbe.0 y p.1)

  pub edged_next : (line : List ℕ) → Edged s pens y line → Edged s pens (y + 1) line
  edged_next line edged = record { held = λ x h. edged.held x h ∙ sym (edge_next x) }

-- What the fills make of a line.
module _ (s : Setting) (r : Accepted s) (pens o : List ℕ) (y empty : ℕ) (room : length o ≡ 2048) (is : empty ≡ blank_of s y) where
  synced : (p : List ℕ) → Paints 0 o p 0 s.hs.0 (λ x. empty + 8192) → Paints 0 o p 0 s.hs.0 (edge_ink s pens y)
  synced p e = paint_as (edge_ink s pens y) (λ x a b. rw is (sym (sync_edge s pens x y b))) e

  edged : (m : List ℕ) → Paints 0 o m 0 s.n.0 (edge_ink s pens y) → Edged s pens y m
  edged m p = record { held = λ x h. p.on x (omega arith) h }

  pub blank_line : (p m : List ℕ) → within s.vbs.0 s.vbe.0 y ≡ false
      → Paints 0 o p 0 s.hs.0 (λ x. empty + 8192) → Paints 0 p m s.hs.0 s.n.0 (λ x. empty) → Edged s pens y m
  blank_line p m none e f =
      let out : (x : ℕ) → InBorder s x y → ⊥ = λ x i. true≢false (sym (true_within s.vbs.0 s.vbe.0 y i.above i.below) ∙ none) in
      let rest = paint_as (edge_ink s pens y) (λ x a b. rw is (sym (blank_edge s pens x y a (out x)))) f in
      edged m (paint_next {d = 0} (omega arith) (omega (arith, r.hs_bs, r.bs_ds, r.ds_de, r.de_be, r.be_n)) (synced p e) rest)

  pub bordered_line : (p q t m : List ℕ) → s.vbs.0 ≤ y → y < s.vbe.0
      → Paints 0 o p 0 s.hs.0 (λ x. empty + 8192) → Paints 0 p q s.hs.0 s.bs.0 (λ x. empty)
      → Paints 0 q t s.bs.0 s.be.0 (λ x. get_or pens 0 0) → Paints 0 t m s.be.0 s.n.0 (λ x. empty) → Edged s pens y m
  bordered_line p q t m above below e f g h =
      let ink = edge_ink s pens y in
      let before = paint_as ink (λ x a b. rw is (sym (blank_edge s pens x y a (λ i. omega (arith, i.left))))) f in
      let border = paint_as ink (λ x a b. sym (border_edge s pens x y r (record { left = a; right = b; above = above; below = below }))) g in
      let after =
      paint_as ink
      (λ x a b. rw is (sym (blank_edge s pens x y (omega (arith, r.hs_bs, r.bs_ds, r.ds_de, r.de_be)) (λ i. omega (arith, i.right))))) h in
      edged m
      (paint_next {d = 0} (omega arith) (omega (arith, r.be_n))
      (paint_next {d = 0} (omega arith) (omega (arith, r.bs_ds, r.ds_de, r.de_be))
      (paint_next {d = 0} (omega arith) (omega (arith, r.hs_bs)) (synced p e) before) border) after)
