-- A raster with no cursor: its line with the display's stretch in it.
use Prim.Native.Nat.{ℕ, ◌+◌, ◌-◌, ◌≤◌}
use mathlib.Core.Bool.{true, false, true≢false}
use mathlib.Core.Path.{◌≡◌, sym, ◌∙◌}
use mathlib.Core.List.{List}
use mathlib.Core.Logic.{inl, inr}
use native.Mathlib.Omega.{arith}
use borrow.Author.Tests.{lt-ltb, le-ltb}
use lib.ListN.{length, get_or, take, length-take, get_or-eq_default}
use Rattle.std.proofs.lemmas.List.{get_or-take}
use Rattle.buffers.specs.Painted.{painted}
use Rattle.buffers.proofs.Split.{lt_or_le, is_false}
use Rattle.buffers.proofs.Paints.{Paints, paint_as, paint_next, paints_painted}
use Rattle.registers.specs.declared.setting.Setting.{Setting}
use Rattle.registers.specs.inner.Accepted.{Accepted}
use Rattle.cells.specs.Cell.{within, in_display}
use Rattle.cells.specs.inner.Region.{InDisplay}
use Rattle.cells.proofs.Regions.{within_true, true_within, display_inside, inside_display}
use Rattle.frame.specs.inner.Ink.{display_ink, lined_ink, blank_of}

module _ (s : Setting) (r : Accepted s) (line table video : List ℕ) (y : ℕ) where
  -- Positions that the display does not reach, from the line.
  lined : (x : ℕ) → (InDisplay s x y → ⊥) → get_or line x 0 ≡ lined_ink s line table video y x
  unfolding lined_ink
  lined x out = rw (is_false (in_display s x y) (λ t. out (display_inside s x y t)))

  here : (c x : ℕ) → c ≤ x → get_or line (c + (x - c)) 0 ≡ get_or line x 0
  here c x h = let e : c + (x - c) ≡ x = omega arith in rw e

  shown : (x : ℕ) → InDisplay s x y → display_ink s table video y x ≡ lined_ink s line table video y x
  unfolding lined_ink
  shown x i = rw (inside_display s x y i)

  module _ (o : List ℕ) (room : length o ≡ s.n.0) where
    pub undisplayed_law : (m : List ℕ) → within s.vds.0 s.vde.0 y ≡ false → m ≡ take s.n.0 line → length line ≡ 2048
        → m ≡ painted o 0 s.n.0 (lined_ink s line table video y)
    undisplayed_law m none e long =
        let out : (x : ℕ) → InDisplay s x y → ⊥ = λ x i. true≢false (sym (true_within s.vds.0 s.vde.0 y i.above i.below) ∙ none) in
        let len : length m ≡ s.n.0 = rw e (omega (arith, length-take {A = ℕ}, r.n_most)) in
        paints_painted {d = 0} {f = lined_ink s line table video y} (omega (arith, room))
        (record {
          len = omega (arith, room, len);
          low = λ k h. absurd (omega arith);
          on = λ k p q. rw e (get_or-take s.n.0 line k 0 q) ∙ lined k (out k);
          high = λ k h. get_or-eq_default m 0 (omega (arith, len)) ∙ sym (get_or-eq_default o 0 (omega (arith, room)));
        })

    pub displayed_law : (p q m : List ℕ) (de : ℕ) → de ≡ s.de.0 → within s.vds.0 s.vde.0 y ≡ true
        → Paints 0 o p 0 s.ds.0 (λ x. get_or line (0 + (x - 0)) 0)
        → Paints 0 p q s.ds.0 s.de.0 (display_ink s table video y)
        → Paints 0 q m s.de.0 s.n.0 (λ x. get_or line (de + (x - s.de.0)) 0)
        → m ≡ painted o 0 s.n.0 (lined_ink s line table video y)
    displayed_law p q m de from in_rows e f g =
        let rows = within_true s.vds.0 s.vde.0 y in_rows in
        let ink = lined_ink s line table video y in
        let left = paint_as ink (λ x a b. here 0 x a ∙ lined x (λ i. omega (arith, i.left))) e in
        let mid = paint_as ink (λ x a b. shown x (record { left = a; right = b; above = rows.0; below = rows.1 })) f in
        let right = paint_as ink (λ x a b. rw from (here s.de.0 x a) ∙ lined x (λ i. omega (arith, i.right))) g in
        paints_painted {d = 0} {f = ink} (omega (arith, room))
        (paint_next {d = 0} (omega arith) (omega (arith, r.de_be, r.be_n)) (paint_next {d = 0} (omega arith) (omega (arith, r.ds_de)) left mid) right)

-- A cell outside border and horizontal sync is at most that of vertical sync.
pub blank_most : (s : Setting) (y : ℕ) → blank_of s y ≤ 16384
blank_most s y = elim (lt_or_le y s.vs.0) [ inl h ↦ rw (lt-ltb y s.vs.0 h) (omega arith) | inr h ↦ rw (le-ltb y s.vs.0 h) (omega arith) ]
