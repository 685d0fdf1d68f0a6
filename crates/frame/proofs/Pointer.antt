-- The cursor over a raster: where it covers, and that painting its pairs between border start and end covers exactly that.
use Prim.Native.Nat.{ℕ, ◌+◌, ◌*◌, ◌-◌, ◌<◌, ◌≤◌, min}
use mathlib.Core.Bool.{Bool, true, false, ◌&&◌, not, true≢false}
use mathlib.Core.Path.{◌≡◌, refl, sym, ◌∙◌}
use mathlib.Core.List.{List}
use mathlib.Core.Logic.{inl, inr}
use native.Mathlib.Omega.{arith}
use borrow.Author.Tests.{ne_eqb}
use lib.Dec.{eqb}
use lib.ListN.{length, get_or, set}
use Rattle.buffers.specs.Pick.{pick}
use Rattle.buffers.specs.Painted.{painted}
use Rattle.buffers.proofs.Tests.{and_split, and_join}
use Rattle.buffers.proofs.Split.{lt_or_le, is_false}
use Rattle.buffers.proofs.Paints.{Paints, paint_as, paint_more, paint_skip, paint_within, paints_painted}
use Rattle.registers.specs.declared.setting.Setting.{Setting}
use Rattle.cells.specs.Pixel.{cursor_pair}
use Rattle.cells.specs.Cell.{within, covered}
use Rattle.cells.specs.inner.Known.{Picture}
use Rattle.cells.specs.inner.Region.{Reached}
use Rattle.cells.proofs.Regions.{within_true, true_within, covered_reached, reached_covered}
use Rattle.registers.specs.inner.Accepted.{Accepted}
use Rattle.registers.proofs.Accepted.{cursor_words_holds}
use Rattle.frame.specs.inner.Ink.{pair_in, pair_ink, cover_ink}

-- A pair is two bits.
pub pair_small : (cursor : List ℕ) (first i : ℕ) → pair_in cursor first i < 4
unfolding pair_in
pair_small cursor first i = omega arith

-- One pair more: stored, or 00.
module _ (pens cursor o m : List ℕ) (first start low i p : ℕ) (is : p ≡ pair_in cursor first i) (order : low ≤ i) where
  pair_at : start + i - start ≡ i
  pair_at = omega arith

  pub pair_stored : (p ≡ 0 → ⊥) → start + i < length o → Paints 0 o m (start + low) (start + i) (pair_ink pens cursor first start o)
      → Paints 0 o (set m (start + i) (get_or pens p 0)) (start + low) (start + (i + 1)) (pair_ink pens cursor first start o)
  unfolding pair_ink
  pair_stored some fits so_far =
      let e : start + i + 1 ≡ start + (i + 1) = omega arith in
      rw e at
      (paint_more {f = pair_ink pens cursor first start o} (get_or pens p 0) (omega arith) fits
      (rw (pair_at, ← is, ne_eqb p 0 some)) so_far)

  pub pair_clear : p ≡ 0 → Paints 0 o m (start + low) (start + i) (pair_ink pens cursor first start o)
      → Paints 0 o m (start + low) (start + (i + 1)) (pair_ink pens cursor first start o)
  unfolding pair_ink
  pair_clear none so_far =
      let e : start + i + 1 ≡ start + (i + 1) = omega arith in
      rw e at
      (paint_skip {f = pair_ink pens cursor first start o} (omega arith) (rw (pair_at, ← is, none)) so_far)

pub pointed_rows : (s : Setting) (y : ℕ) → s.cursor && within s.vcs.0 s.vce.0 y && within s.vbs.0 s.vbe.0 y ≡ true
    → (s.cursor ≡ true) × (s.vcs.0 ≤ y) × (y < s.vce.0) × (s.vbs.0 ≤ y) × (y < s.vbe.0)
pointed_rows s y e =
    let h = and_split (s.cursor && within s.vcs.0 s.vce.0 y) (within s.vbs.0 s.vbe.0 y) e in
    let g = and_split s.cursor (within s.vcs.0 s.vce.0 y) h.0 in
    let a = within_true s.vcs.0 s.vce.0 y g.1 in
    let b = within_true s.vbs.0 s.vbe.0 y h.1 in
    (g.0, a.0, a.1, b.0, b.1)

-- The pairs of raster y lie in the cursor's words.
pub pairs_lie : {s : Setting} {video cursor : List ℕ} (y : ℕ) → Picture s video cursor
    → s.cursor ≡ true → s.vcs.0 ≤ y → y < s.vce.0 → 2 * (y - s.vcs.0) + 2 ≤ length cursor
pairs_lie {s} y p on above below = rw (p.cursor_words, cursor_words_holds s on) (omega arith)

module _ (s : Setting) (r : Accepted s) (pens cursor o : List ℕ) (y : ℕ) (room : length o ≡ s.n.0) where
  kept : Paints 0 o o 0 s.n.0 (λ k. get_or o k 0)
  kept = record { len = refl; low = λ k h. refl; on = λ k a b. refl; high = λ k h. refl }

  -- What stands there already, where nothing is covered.
  plainly : (x : ℕ) → (Reached s x y → ⊥) → get_or o x 0 ≡ cover_ink s pens cursor y o x
  unfolding cover_ink
  plainly x out = rw (is_false (covered s cursor x y) (λ t. out (covered_reached s r x y cursor t)))

  kept_law : ((x : ℕ) → Reached s x y → ⊥) → o ≡ painted o 0 s.n.0 (cover_ink s pens cursor y o)
  kept_law out =
      paints_painted {d = 0} {f = cover_ink s pens cursor y o} (omega (arith, room))
      (paint_as (cover_ink s pens cursor y o) (λ x p q. plainly x (out x)) kept)

  pub unpointed_law : s.cursor && within s.vcs.0 s.vce.0 y && within s.vbs.0 s.vbe.0 y ≡ false
      → o ≡ painted o 0 s.n.0 (cover_ink s pens cursor y o)
  unpointed_law e = kept_law out
    where
      out : (x : ℕ) → Reached s x y → ⊥
      out x c =
          let rows = true_within s.vcs.0 s.vce.0 y c.cursor.above c.cursor.below in
          let border = true_within s.vbs.0 s.vbe.0 y c.border.above c.border.below in
          true≢false (sym (and_join (and_join c.on rows) border) ∙ e)

  module _ (low high : ℕ) (e_low : low ≡ s.bs.0 - s.cx.0) (e_high : high ≡ min (s.be.0 - s.cx.0) 32) where
    pub outside_law : (p : List ℕ) (a : ℕ) (f : ℕ → ℕ) → high ≤ low → Paints 0 o p a a f → p ≡ painted o 0 s.n.0 (cover_ink s pens cursor y o)
    outside_law p a f h none =
        paints_painted {d = 0} {f = cover_ink s pens cursor y o} (omega (arith, room))
        (record { len = none.len; low = λ x t. same x; on = λ x t u. same x ∙ plainly x (out x); high = λ x t. same x })
      where
        same : (x : ℕ) → get_or p x 0 ≡ get_or o x 0
        same x = elim (lt_or_le x a) [ inl t ↦ none.low x t | inr t ↦ none.high x t ]

        out : (x : ℕ) → Reached s x y → ⊥
        out x c = omega (arith, c.border.left, c.border.right, c.cursor.left, c.cursor.right)

    pub cover_law : (p : List ℕ) → low < high → s.cursor ≡ true → s.vcs.0 ≤ y → y < s.vce.0 → s.vbs.0 ≤ y → y < s.vbe.0
        → Paints 0 o p (s.cx.0 + low) (s.cx.0 + high) (pair_ink pens cursor (2 * (y - s.vcs.0)) s.cx.0 o)
        → p ≡ painted o 0 s.n.0 (cover_ink s pens cursor y o)
    unfolding cover_ink pair_ink pair_in cursor_pair
    cover_law p some on above below top bottom over =
        paints_painted {d = 0} {f = cover_ink s pens cursor y o} (omega (arith, room))
        (paint_within {d = 0} (cover_ink s pens cursor y o) (omega arith) (omega (arith, r.be_n)) before under after kept over)
      where
        before : (k : ℕ) → 0 ≤ k → k < s.cx.0 + low → get_or o k 0 ≡ cover_ink s pens cursor y o k
        before k a b = plainly k (λ c. omega (arith, c.border.left, c.cursor.left))

        after : (k : ℕ) → s.cx.0 + high ≤ k → k < s.n.0 → get_or o k 0 ≡ cover_ink s pens cursor y o k
        after k a b = plainly k (λ c. omega (arith, c.border.right, c.cursor.right))

        swap : (t : Bool) (a b : ℕ) → pick t a b ≡ pick (not t) b a
        swap true a b = refl
        swap false a b = refl

        under : (k : ℕ) → s.cx.0 + low ≤ k → k < s.cx.0 + high
            → pair_ink pens cursor (2 * (y - s.vcs.0)) s.cx.0 o k ≡ cover_ink s pens cursor y o k
        under k a b =
            let pair = pair_in cursor (2 * (y - s.vcs.0)) (k - s.cx.0) in
            rw
            (reached_covered s r k y cursor (record {
              on = on;
              border = record { left = omega arith; right = omega arith; above = top; below = bottom };
              cursor = record { left = omega arith; right = omega arith; above = above; below = below };
            }))
            (swap (eqb pair 0) (get_or o k 0) (get_or pens pair 0))
