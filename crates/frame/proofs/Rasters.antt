-- A raster is the cursor over plain cells; rasters one after another.
use Prim.Native.Nat.{ℕ, ◌+◌, ◌*◌, ◌-◌, ◌<◌, ◌≤◌}
use mathlib.Core.Path.{◌≡◌, sym, ap, ◌∙◌}
use mathlib.Core.List.{List}
use native.Mathlib.Nat.{mul-le-mul_right, zero-mul}
use native.Mathlib.Omega.{arith}
use lib.Arith.{digits_div, digits_mod}
use lib.ListN.{length, get_or}
use Rattle.buffers.specs.Pick.{pick}
use Rattle.buffers.specs.Painted.{painted}
use Rattle.buffers.proofs.Paints.{Paints, paint_as, paints_of, paints_painted}
use Rattle.registers.specs.declared.setting.Setting.{Setting}
use Rattle.cells.specs.Pixel.{cursor_pair}
use Rattle.cells.specs.Cell.{covered}
use Rattle.registers.specs.inner.Accepted.{Accepted}
use Rattle.frame.specs.inner.Lines.{Edged}
use Rattle.frame.specs.inner.Ink.{plain_ink, lined_ink, ink, cover_ink, rows_ink}
use Rattle.frame.proofs.Edges.{lined_plain}

module _ (s : Setting) (r : Accepted s) (pens line table video cursor o p q : List ℕ) (y : ℕ) (room : length o ≡ s.n.0)
    (edged : Edged s pens y line) where
  -- Cover over plain cells is the rule.
  pub row_law : p ≡ painted o 0 s.n.0 (lined_ink s line table video y)
      → q ≡ painted p 0 s.n.0 (cover_ink s pens cursor y p)
      → q ≡ painted o 0 s.n.0 (ink s pens table video cursor y)
  unfolding cover_ink ink
  row_law e f = paints_painted {d = 0} {f = ink s pens table video cursor y} (omega (arith, room))
      (record {
        len = over.len ∙ under.len;
        low = λ k h. over.low k h ∙ under.low k h;
        on = λ k a b.
            over.on k a b
            ∙ ap (λ (n : ℕ). pick (covered s cursor k y) (get_or pens (cursor_pair s cursor y (k - s.cx.0)) 0) n) (under.on k a b);
        high = λ k h. over.high k h ∙ under.high k h;
      })
    where
      under : Paints 0 o p 0 s.n.0 (plain_ink s pens table video y)
      under =
          paint_as (plain_ink s pens table video y) (λ k a b. lined_plain s pens k y r table video line b edged)
          (paints_of {d = 0} {f = lined_ink s line table video y} (omega (arith, room)) e)

      over : Paints 0 p q 0 s.n.0 (cover_ink s pens cursor y p)
      over = paints_of {d = 0} {f = cover_ink s pens cursor y p} (omega (arith, room, under.len)) f

-- Where a raster starts among those from the first on.
pub no_place : (first n : ℕ) → 0 ≡ (first - first) * n
no_place first n = let q : first - first ≡ 0 = omega arith in rw q (sym (zero-mul n))

room_for : (m e n : ℕ) → m < e → m * n + n ≤ n * e
room_for m e n h = omega (arith, mul-le-mul_right n h)

pub row_room : (n first end y : ℕ) → first ≤ y → y < end → (y - first) * n + n ≤ n * (end - first)
row_room n first end y a b = room_for (y - first) (end - first) n (omega arith)

pub next_place : (first y n : ℕ) → first ≤ y → (y - first) * n + n ≡ (y + 1 - first) * n
next_place first y n h = let q : y + 1 - first ≡ (y - first) + 1 = omega arith in rw q (omega arith)

-- Position x of raster y among them.
pub row_same : (s : Setting) (pens table video cursor : List ℕ) (first y x : ℕ) → first ≤ y → x < s.n.0
    → ink s pens table video cursor y x ≡ rows_ink s pens table video cursor first ((y - first) * s.n.0 + x)
unfolding rows_ink
row_same s pens table video cursor first y x after h =
    let f : first + (y - first) ≡ y = omega arith in
    rw (digits_div (y - first) h, digits_mod (y - first) h, f)
