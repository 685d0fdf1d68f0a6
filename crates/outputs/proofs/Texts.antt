-- The lines of a picture by their tests, and of what is told of it: a refusal has one line, a picture its head and its rasters.
use Prim.Native.Nat.{ℕ, ◌+◌, ◌-◌, ◌<◌, ◌≤◌}
use mathlib.Core.Path.{◌≡◌}
use mathlib.Core.List.{List, []}
use native.Mathlib.Omega.{arith}
use lib.ListN.{length, take}
use lib.Seq.{sets-eq, take-append_seam}
use borrow.Author.Tests.{lt-leb, le-leb, eq-eqb, ne_eqb}
use Rattle.buffers.specs.Put.{Put}
use Rattle.refusals.specs.Table.{Why, Told, given, refused}
use Rattle.registers.specs.declared.record.Registers.{Registers}
use Rattle.registers.specs.declared.setting.Setting.{Setting}
use Rattle.cells.specs.Picture.{picture_told}
use Rattle.outputs.specs.Text.{refused_line, raster_line, picture_head, picture_line, line_by, line_at, lines_for}

-- the lines of a picture, by its tests
module _ (g : Registers) (video cursor : List ℕ) (s : Setting) (k : ℕ) where
  pub line_head : k ≡ 0 → picture_line g s video cursor k ≡ picture_head g s video cursor
  unfolding picture_line
  line_head e = rw (eq-eqb k 0 e)

  pub line_none : (k ≡ 0 → ⊥) → s.v.0 < k → picture_line g s video cursor k ≡ []
  unfolding picture_line
  line_none h a = rw (ne_eqb k 0 h, lt-leb _ _ a)

  pub line_raster : (k ≡ 0 → ⊥) → k ≤ s.v.0 → picture_line g s video cursor k ≡ raster_line g s video cursor (k - 1)
  unfolding picture_line
  line_raster h a = rw (ne_eqb k 0 h, le-leb _ _ a)

-- a line of what is told of a picture
module _ (g : Registers) (video cursor : List ℕ) (k : ℕ) where
  pub refused_later : (w : Why) → picture_told g video cursor ≡ refused w → (k ≡ 0 → ⊥) → line_at g video cursor k ≡ []
  unfolding line_at
  refused_later w e h = rw (e, ne_eqb k 0 h)

  pub refused_first : (w : Why) → picture_told g video cursor ≡ refused w → k ≡ 0 → line_at g video cursor k ≡ refused_line w
  unfolding line_at
  refused_first w e h = rw (e, eq-eqb k 0 h)

  pub line_given : (s : Setting) → picture_told g video cursor ≡ given s → line_at g video cursor k ≡ picture_line g s video cursor k
  unfolding line_at
  line_given s e = rw e

-- past the last line there is nothing: the whole text is the lines before it, one after the other
pub no_more : (g : Registers) (video cursor : List ℕ) (t : Told Setting) (k : ℕ) → lines_for t ≤ k → line_by g video cursor t k ≡ []
unfolding picture_line
no_more g video cursor (given s) k h = rw (ne_eqb k 0 (λ e. omega arith), lt-leb k s.v.0 (omega arith))
no_more g video cursor (refused w) k h = rw (ne_eqb k 0 (λ e. omega arith))

-- the bytes of a text that was stored from the first place on
pub put_back : (o p vs : List ℕ) (n : ℕ) → Put o p 0 vs n → take n p ≡ vs
put_back o p vs n put =
    let e : n ≡ length vs = omega (arith, put.after) in
    let f : 0 + length vs ≤ length o = omega (arith, put.after, put.inside) in
    rw (e, put.stored, sets-eq vs o 0 f) (take-append_seam vs _)
