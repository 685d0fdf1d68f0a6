-- Laws of the strips: by their tests, and of what is told of a picture; a refusal has none.
use Prim.Native.Nat.{ℕ, ◌*◌, ◌-◌, ◌<◌, ◌≤◌}
use mathlib.Core.Path.{◌≡◌, refl}
use mathlib.Core.List.{List, []}
use native.Mathlib.Omega.{arith}
use lib.ListN.{length}
use borrow.Author.Tests.{lt-leb, le-leb, eq-eqb, ne_eqb}
use Rattle.buffers.specs.Put.{Put, text_in}
use Rattle.buffers.proofs.Puts.{text_fits}
use Rattle.refusals.specs.Table.{Why, Told, given, refused}
use Rattle.registers.specs.declared.record.Registers.{Registers}
use Rattle.registers.specs.declared.setting.Setting.{Setting}
use Rattle.pictures.specs.Colours.{guns_of}
use Rattle.pictures.proofs.Stored.{length_guns}
use Rattle.cells.specs.Picture.{picture_told}
use Rattle.outputs.specs.Strip.{strip_head, raster_strip, picture_strip, strip_by, strip_at, strips_for}

-- the strips of a picture, by their tests
module _ (g : Registers) (video cursor : List ℕ) (s : Setting) (k : ℕ) where
  pub strip_head_holds : k ≡ 0 → picture_strip g s video cursor k ≡ strip_head s.n.0 s.v.0
  unfolding picture_strip
  strip_head_holds e = rw (eq-eqb k 0 e)

  pub strip_none : (k ≡ 0 → ⊥) → s.v.0 < k → picture_strip g s video cursor k ≡ []
  unfolding picture_strip
  strip_none h a = rw (ne_eqb k 0 h, lt-leb _ _ a)

  pub strip_raster : (k ≡ 0 → ⊥) → k ≤ s.v.0 → picture_strip g s video cursor k ≡ raster_strip g s video cursor (k - 1)
  unfolding picture_strip
  strip_raster h a = rw (ne_eqb k 0 h, le-leb _ _ a)

-- a strip of what is told of a picture
module _ (g : Registers) (video cursor : List ℕ) (k : ℕ) where
  pub strip_refused : (w : Why) → picture_told g video cursor ≡ refused w → strip_at g video cursor k ≡ []
  unfolding strip_at
  strip_refused w e = rw e

  pub strip_given : (s : Setting) → picture_told g video cursor ≡ given s → strip_at g video cursor k ≡ picture_strip g s video cursor k
  unfolding strip_at
  strip_given s e = rw e

-- the bytes of some cells, with room for them
pub guns_fit : {o p : List ℕ} {r : ℕ} (room : ℕ) (cells : List ℕ) → 3 * length cells ≤ room
    → Put o p 0 (text_in room (guns_of cells)) r → Put o p 0 (guns_of cells) r
guns_fit room cells h t = rw (← text_fits room (guns_of cells) (omega (arith, length_guns cells))) t

-- past the last strip there is nothing: the whole file is the strips before it, one after the other
pub no_more_strips : (g : Registers) (video cursor : List ℕ) (t : Told Setting) (k : ℕ) → strips_for t ≤ k → strip_by g video cursor t k ≡ []
unfolding picture_strip
no_more_strips g video cursor (given s) k h = rw (ne_eqb k 0 (λ e. omega arith), lt-leb k s.v.0 (omega arith))
no_more_strips g video cursor (refused w) k h = refl
