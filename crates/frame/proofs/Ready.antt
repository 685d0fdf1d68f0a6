-- The rule over cells made ready is the cell rule: the table holds each pixel's display cell, the pens the border's and the cursor's.
use Prim.Native.Nat.{ℕ, zero, suc, ◌+◌, ◌*◌, ◌-◌, ◌/◌, ◌%◌, ◌^◌, ◌<◌, ◌≤◌}
use mathlib.Core.Bool.{Bool, true, false}
use mathlib.Core.Path.{◌≡◌, refl, sym, ap, ◌∙◌}
use mathlib.Core.List.{List}
use mathlib.Core.Logic.{inl, inr}
use native.Mathlib.Nat.{div-one, mod-eq_of_lt, mod-lt, one-mul, sub-zero, zero-add, div-eq_of_lt, add-zero}
use native.Mathlib.Omega.{arith}
use borrow.Author.Tests.{eqb-false}
use lib.Arith.{digits_div, digits_mod}
use lib.Dec.{ltb, eqb}
use lib.ListN.{length, get_or, replicate, length-replicate}
use lib.Pow.{pow_mono, pow_pos}
use Rattle.buffers.specs.Pick.{pick}
use Rattle.buffers.specs.Painted.{painted}
use Rattle.buffers.specs.Words.{byte_of}
use Rattle.buffers.proofs.Paints.{paint_as, paints_of, paints_painted}
use Rattle.buffers.proofs.Split.{true_or_false}
use Rattle.registers.specs.Colours.{border_of, cursor_of}
use Rattle.registers.specs.inner.Accepted.{Depth}
use Rattle.registers.specs.declared.record.Registers.{Registers}
use Rattle.registers.specs.declared.setting.Setting.{Setting}
use Rattle.colours.specs.Apart.{apart_of, both_of}
use Rattle.colours.specs.Colour.{shown_of, colour_of, entries_of}
use Rattle.colours.specs.declared.apart.Apart.{Apart}
use Rattle.colours.proofs.Bounds.{colour_below, shown_below}
use Rattle.colours.proofs.Sixteen.{entry_of}
use Rattle.colours.proofs.Together.{cell_apart}
use Rattle.cells.specs.Pixel.{position, logical, cursor_pair}
use Rattle.cells.specs.Cell.{in_display, in_border, plain_code, covered, code, cell}
use Rattle.cells.proofs.Regions.{covered_shown, covered_cell}
use Rattle.frame.specs.inner.Ink.{byte_ink, bytes_ink, words_ink, display_ink, plain_ink, ink, rows_ink, rows_cell, shade, entry_shade, pens_of}
use Rattle.cells.proofs.PixelPlaces.{per_least, per_most, pixel_byte}
use Rattle.frame.proofs.Words.{part_room}
use Rattle.frame.specs.inner.Bytes.{Bytes}
use Rattle.frame.specs.inner.Quads.{Cells}
use Rattle.frame.specs.Frame.{cells, frame_cell, raster_cell}

-- How many logical pixels there are, as the machine reckons it.
pub count_is : (d : ℕ) → d ≤ 8 → (1 * 2 ^ d) % 2 ^ 64 ≡ 2 ^ d
count_is d h = rw (one-mul (2 ^ d)) (mod-eq_of_lt (omega (arith, pow_mono h)))

-- There are at most 256.
pub count_most : (d : ℕ) → d ≤ 8 → (1 * 2 ^ d) % 2 ^ 64 ≤ 256
count_most d h = rw (count_is d h) (omega (arith, pow_mono h))

-- The cells by the palette's entries.
module _ (g : Registers) (palette : List ℕ) (d p : ℕ) (e : palette ≡ entries_of g) where
  pub entry_shade_holds : entry_shade palette d p ≡ shade g d p
  unfolding entry_shade shade
  entry_shade_holds = rw (entry_of g palette p e)

-- The cell made of 13 bits that were taken apart, and so the display cell by the palette's entries.
pub made_cell : (code held h r : ℕ) (a : Apart) → held < 8192 → h ≡ held → a ≡ apart_of h → r ≡ code * 8192 + both_of a → r ≡ code * 8192 + held
made_cell code held h r a below same apart made =
    made ∙ ap (λ (b : Apart). code * 8192 + both_of b) (apart ∙ ap apart_of same) ∙ cell_apart code held below

pub entry_shade_is : (palette : List ℕ) (d p r : ℕ) (a : Apart) → a ≡ apart_of (shown_of (get_or palette (p % 16) 0) d p) → r ≡ 5 * 8192 + both_of a
    → r ≡ entry_shade palette d p
unfolding entry_shade
entry_shade_is palette d p r a apart made =
    let entry = get_or palette (p % 16) 0 in
    made_cell 5 (shown_of entry d p) _ r a (shown_below entry d p) refl apart made

-- Shades are right where they have each logical pixel's cell.
abbrev Shades : Registers → ℕ → List ℕ → Type 0
Shades g d shades = (p : ℕ) → p < 2 ^ d → get_or shades p 0 ≡ shade g d p

pen_at : (g : Registers) (p : ℕ) → p < 4 → (p ≡ 0 → ⊥) → get_or (pens_of g) p 0 ≡ 6 * 8192 + cursor_of g p
unfolding pens_of
pen_at g zero h some = absurd (some refl)
pen_at g (suc zero) h some = refl
pen_at g (suc (suc zero)) h some = refl
pen_at g (suc (suc (suc zero))) h some = refl
pen_at g (suc (suc (suc (suc p)))) h some = absurd (omega arith)

-- By the tests that make a code: sync, display, border.
by_tests : (a b d e : Bool) (t p q w c : ℕ) → t ≡ 5 * 8192 + w → p ≡ 4 * 8192 + c
    → pick (eqb (pick (ltb 0 (pick a 1 0 + pick b 2 0)) (pick a 1 0 + pick b 2 0) (pick d 5 (pick e 4 0))) 5) t
    (pick (eqb (pick (ltb 0 (pick a 1 0 + pick b 2 0)) (pick a 1 0 + pick b 2 0) (pick d 5 (pick e 4 0))) 4) p
    (pick (ltb 0 (pick a 1 0 + pick b 2 0)) (pick a 1 0 + pick b 2 0) (pick d 5 (pick e 4 0)) * 8192))
    ≡ pick (ltb 0 (pick a 1 0 + pick b 2 0)) (pick a 1 0 + pick b 2 0) (pick d 5 (pick e 4 0)) * 8192
    + pick (eqb (pick (ltb 0 (pick a 1 0 + pick b 2 0)) (pick a 1 0 + pick b 2 0) (pick d 5 (pick e 4 0))) 6) q
    (pick (eqb (pick (ltb 0 (pick a 1 0 + pick b 2 0)) (pick a 1 0 + pick b 2 0) (pick d 5 (pick e 4 0))) 5) w
    (pick (eqb (pick (ltb 0 (pick a 1 0 + pick b 2 0)) (pick a 1 0 + pick b 2 0) (pick d 5 (pick e 4 0))) 4) c 0))
by_tests true true d e t p q w c f g = refl
by_tests true false d e t p q w c f g = refl
by_tests false true d e t p q w c f g = refl
by_tests false false true e t p q w c f g = f
by_tests false false false true t p q w c f g = g
by_tests false false false false t p q w c f g = refl

module _ (g : Registers) (s : Setting) (table video cursor : List ℕ) (x y : ℕ) (depth : Depth s.depth) (right : Bytes g s.depth table) where
  pixel_cell : display_ink s table video y x ≡ 5 * 8192 + colour_of g s.depth (logical s video x y)
  unfolding display_ink words_ink shade
  pixel_cell =
      let i = position s x y in
      let per = 8 / s.depth in
      right.cell (byte_of video (i / per)) (i % per) (mod-lt _ (omega arith)) (mod-lt i (per_least depth))
      ∙ ap (λ (p : ℕ). shade g s.depth p) (sym (pixel_byte video s.depth i depth))

  pair_below : cursor_pair s cursor y (x - s.cx.0) < 4
  unfolding cursor_pair
  pair_below = omega arith

  -- Where it is covered, the cursor's pen; else by the tests that make the code.
  ink_covered : covered s cursor x y ≡ true → ink s (pens_of g) table video cursor y x ≡ 6 * 8192 + cursor_of g (cursor_pair s cursor y (x - s.cx.0))
  unfolding ink
  ink_covered e =
      let pair = cursor_pair s cursor y (x - s.cx.0) in
      rw e (pen_at g pair pair_below (eqb-false pair 0 (covered_shown s x y cursor e)))

  ink_plain : covered s cursor x y ≡ false → ink s (pens_of g) table video cursor y x ≡ cell g s video cursor x y
  unfolding ink plain_ink plain_code code cell pens_of
  ink_plain e =
      rw e
      (by_tests (ltb x s.hs.0) (ltb y s.vs.0) (in_display s x y) (in_border s x y) _ _
      (cursor_of g (cursor_pair s cursor y (x - s.cx.0))) (colour_of g s.depth (logical s video x y)) (border_of g) pixel_cell refl)

  pub ink_cell : ink s (pens_of g) table video cursor y x ≡ cell g s video cursor x y
  ink_cell =
      elim (true_or_false (covered s cursor x y)) [
        | inl e ↦ ink_covered e ∙ sym (covered_cell g s video cursor x y e)
        | inr e ↦ ink_plain e
      ]

-- One raster alone has as many places as it has positions.
pub one_raster : (n y : ℕ) → n * (y + 1 - y) ≡ n
one_raster n y = let q : y + 1 - y ≡ 1 = omega arith in rw q (omega arith)

-- What `shades` makes is right, and so is the table: at depth 8 what `shades` makes, else what `bytes` makes of that.
shades_right : (g : Registers) (d : ℕ) (o shades : List ℕ) → 2 ^ d ≤ length o → shades ≡ painted o 0 (2 ^ d) (shade g d) → Shades g d shades
shades_right g d o shades room e p b = (paints_of {d = 0} {l = o} {f = shade g d} room e).on p (omega arith) b

pub bytes_eight : (g : Registers) (d : ℕ) (o table : List ℕ) → d ≡ 8 → 256 ≤ length o → table ≡ painted o 0 (2 ^ 8) (shade g 8) → Bytes g d table
bytes_eight g d o table eight room e = rw eight (record { cell = cell })
  where
    cell : (b j : ℕ) → b < 256 → j < 8 / 8 → get_or table (b * (8 / 8) + j) 0 ≡ shade g 8 (b / 2 ^ (j * 8) % 2 ^ 8)
    cell b zero h l =
        let k : b * (8 / 8) + 0 ≡ b = omega arith in
        let one : 2 ^ (0 * 8) ≡ 1 = refl in
        let p : b / 2 ^ (0 * 8) % 2 ^ 8 ≡ b = rw (one, div-one b) (mod-eq_of_lt h) in
        rw (k, p) (shades_right g 8 o table room e b h)
    cell b (suc j) h l = absurd (omega arith)

pub bytes_right : (g : Registers) (d : ℕ) (o shades table : List ℕ) → Depth d → d ≤ 4 → shades ≡ painted (replicate 16 0) 0 (2 ^ d) (shade g d)
    → 2048 ≤ length o → table ≡ painted o 0 (256 * (8 / d)) (bytes_ink shades (8 / d) d) → Bytes g d table
unfolding bytes_ink byte_ink
bytes_right g d o shades table depth few made room e = record { cell = cell }
  where
    right : Shades g d shades
    right = shades_right g d (replicate 16 0) shades (omega (arith, pow_mono few, length-replicate {A = ℕ} 16 0)) made

    cell : (b j : ℕ) → b < 256 → j < 8 / d → get_or table (b * (8 / d) + j) 0 ≡ shade g d (b / 2 ^ (j * d) % 2 ^ d)
    cell b j h l =
        (paints_of {d = 0} {l = o} {f = bytes_ink shades (8 / d) d} (omega (arith, per_most depth)) e
        ).on (b * (8 / d) + j) (omega arith) (omega (arith, part_room b 256 (8 / d) h))
        ∙ rw (digits_div b l, digits_mod b l) (right (b / 2 ^ (j * d) % 2 ^ d) (mod-lt _ (pow_pos d)))

-- A shade has 16 bits, and so have the cells that depth 8 joins.
shade_small : (g : Registers) (d p : ℕ) → shade g d p < 65536
unfolding shade
shade_small g d p = omega (arith, colour_below g d p)

pub cells_right : (g : Registers) (d : ℕ) (table : List ℕ) → Bytes g d table → d ≡ 8 → Cells table
cells_right g d table right eight = record { small = λ b h. small b (rw eight at (right.cell b 0 h (rw eight (omega arith)))) }
  where
    small : (b : ℕ) → get_or table (b * (8 / 8) + 0) 0 ≡ shade g 8 (b / 2 ^ (0 * 8) % 2 ^ 8) → get_or table b 0 < 65536
    small b e =
        let k : b * (8 / 8) + 0 ≡ b = omega arith in
        omega (arith, rw k at e, shade_small g 8 (b / 2 ^ (0 * 8) % 2 ^ 8))

module _ (g : Registers) (s : Setting) (pens table video cursor o p : List ℕ) (depth : Depth s.depth)
    (pens_is : pens ≡ pens_of g) (right : Bytes g s.depth table) where
  same : (x y : ℕ) → ink s pens table video cursor y x ≡ cell g s video cursor x y
  same x y = rw pens_is (ink_cell g s table video cursor x y depth right)

  pub rows_law : (first m : ℕ) → m ≤ length o → p ≡ painted o 0 m (rows_ink s pens table video cursor first)
      → p ≡ painted o 0 m (rows_cell g s video cursor first)
  unfolding rows_ink rows_cell
  rows_law first m room e =
      paints_painted {d = 0} {f = rows_cell g s video cursor first} room
      (paint_as (rows_cell g s video cursor first) (λ k a b. same (k % s.n.0) (first + k / s.n.0))
      (paints_of {d = 0} {f = rows_ink s pens table video cursor first} room e))

-- All rasters are the frame, and one alone is that raster.
module _ (g : Registers) (s : Setting) (video cursor o p : List ℕ) where
  pub frame_law : cells s ≤ length o → p ≡ painted o 0 (s.n.0 * (s.v.0 - 0)) (rows_cell g s video cursor 0)
      → p ≡ painted o 0 (cells s) (frame_cell g s video cursor)
  unfolding rows_cell frame_cell
  frame_law room e =
      paints_painted {d = 0} {f = frame_cell g s video cursor} room
      (paint_as (frame_cell g s video cursor) (λ k a b. rw (zero-add (k / s.n.0)))
      (paints_of {d = 0} {f = rows_cell g s video cursor 0} room (rw (sub-zero s.v.0) at e)))

  pub raster_law : (y : ℕ) → s.n.0 ≤ length o → p ≡ painted o 0 (s.n.0 * (y + 1 - y)) (rows_cell g s video cursor y)
      → p ≡ painted o 0 s.n.0 (raster_cell g s video cursor y)
  unfolding rows_cell raster_cell
  raster_law y room e =
      paints_painted {d = 0} {f = raster_cell g s video cursor y} room
      (paint_as (raster_cell g s video cursor y) (λ k a b. rw (div-eq_of_lt b, mod-eq_of_lt b, add-zero y))
      (paints_of {d = 0} {f = rows_cell g s video cursor y} room (rw (one_raster s.n.0 y) at e)))
