-- The words of a raster that the cursor may cover: its 32 columns, cut off at the display and rounded outwards to whole words.
use Prim.Native.Nat.{ℕ, ◌+◌, ◌*◌, ◌-◌, ◌/◌, ◌<◌, ◌≤◌, min}
use mathlib.Core.Bool.{true, not, ◌||◌}
use mathlib.Core.Logic.{inl, inr}
use mathlib.Core.Path.{◌≡◌}
use native.Mathlib.Nat.{add-mul, mul-le-mul_right, div-mul-le_self, le-div_iff_mul-le, div-lt_iff_lt-mul, lt-div-mul-add}
use native.Mathlib.Omega.{arith}
use borrow.Author.Tests.{le-ltb, lt-leb}
use lib.Dec.{leb, ltb}
use Rattle.buffers.proofs.Tests.{no}
use Rattle.registers.specs.declared.setting.Setting.{Setting}
use Rattle.registers.specs.inner.Accepted.{Depth, Accepted}
use Rattle.cells.proofs.RasterWords.{whole_pixels}
use Rattle.cells.proofs.Regions.{covered_reached}
use Rattle.std.specs.declared.ops.Range.{Range}
use Rattle.marks.specs.inner.Shown.{CursorPart}

-- A word holds some pixels.
pub per_word : {d : ℕ} → Depth d → 0 < 32 / d
per_word (inl e) = rw e (omega arith)
per_word (inr (inl e)) = rw e (omega arith)
per_word (inr (inr (inl e))) = rw e (omega arith)
per_word (inr (inr (inr e))) = rw e (omega arith)

-- Pixels up to one, rounded up to whole words of per pixels.
module _ (per : ℕ) (some : 0 < per) where
  up_order : (l r : ℕ) → l ≤ r → l / per ≤ (r + per - 1) / per
  up_order l r h = (le-div_iff_mul-le some).1 (omega (arith, div-mul-le_self l per))

  up_most : (r m : ℕ) → r ≤ m * per → (r + per - 1) / per ≤ m
  up_most r m h =
      let l : (r + per - 1) / per < m + 1 = (div-lt_iff_lt-mul some).1 (omega (arith, add-mul m 1 per)) in
      omega arith

  up_holds : (r p : ℕ) → p < r → p < (r + per - 1) / per * per
  up_holds r p h = omega (arith, lt-div-mul-add {a = r + per - 1} some)

module _ (s : Setting) (a : Accepted s) (y : ℕ) where
  pub part_none : not s.cursor || ltb y s.vcs.0 || leb s.vce.0 y ≡ true → CursorPart s y (record { start = 0; end = 0 })
  part_none e =
      record {
        order = omega arith;
        inside = omega arith;
        only = λ cursor p l t.
            let r = covered_reached s a (s.ds.0 + p) y cursor t in
            absurd (no (rw (r.on, le-ltb y s.vcs.0 r.cursor.above, lt-leb s.vce.0 y r.cursor.below) at e));
      }

  pub part_some : {left right : ℕ} → left ≡ min (s.cx.0 - s.ds.0) (s.de.0 - s.ds.0)
      → right ≡ min (s.cx.0 + 32 - s.ds.0) (s.de.0 - s.ds.0)
      → CursorPart s y (record { start = left / (32 / s.depth); end = (right + 32 / s.depth - 1) / (32 / s.depth) })
  part_some {left} {right} e f =
      let per = 32 / s.depth in
      let some : 0 < per = per_word a.depth in
      record {
        order = up_order per some left right (omega arith);
        inside = up_most per some right _ (omega (arith, whole_pixels s a));
        only = λ cursor p l t.
            let r = covered_reached s a (s.ds.0 + p) y cursor t in
            (omega (arith, div-mul-le_self left per, r.cursor.left), up_holds per some right p (omega (arith, r.cursor.right)));
      }

-- The part's positions lie in the display.
pub part_inside : (s : Setting) {y : ℕ} {part : Range ℕ} → Accepted s → CursorPart s y part
    → (part.start * (32 / s.depth) ≤ part.end * (32 / s.depth)) × (part.end * (32 / s.depth) ≤ s.de.0 - s.ds.0)
    × (s.de.0 - s.ds.0 ≤ 2048)
part_inside s a c = (
  mul-le-mul_right (32 / s.depth) c.order,
  omega (arith, mul-le-mul_right (32 / s.depth) c.inside, whole_pixels s a),
  omega (arith, a.de_be, a.be_n, a.n_most),
)
