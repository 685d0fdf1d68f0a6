-- Laws of the bytes of cells: how many, and one cell more.
use Prim.Native.Nat.{ℕ, suc, ◌+◌, ◌-◌, ◌*◌, ◌<◌, ◌≤◌}
use mathlib.Core.Path.{◌≡◌, refl, ◌∙◌}
use mathlib.Core.List.{List, [], ◌∷◌}
use native.Mathlib.Numerals.{add-one}
use native.Mathlib.Omega.{arith}
use lib.ListN.{length, get_or, set, drop, drop_of_length-le}
use lib.Seq.{sets, drop-cons}
use borrow.Rule.Slice.PartMut.{put_mid}
use Rattle.buffers.proofs.Sets.{sets_range}
use Rattle.colours.specs.Apart.{apart_of}
use Rattle.colours.specs.Cells.{cell_colour}
use Rattle.colours.specs.declared.apart.Apart.{Apart}
use Rattle.pictures.specs.Colours.{red, green, blue, guns_of}

pub length_guns : (cells : List ℕ) → length (guns_of cells) ≡ 3 * length cells
unfolding guns_of
length_guns [] = refl
length_guns (x ∷ xs) = omega (arith, length_guns xs)

-- The guns of a cell taken apart are those of its 13 bits: supremacy is no part of them.
module _ (cell : ℕ) (a : Apart) (apart : a ≡ apart_of cell) where
  red_apart : red a.colour ≡ red (cell_colour cell)
  red_apart = rw apart (omega arith)

  green_apart : green a.colour ≡ green (cell_colour cell)
  green_apart = rw apart (omega arith)

  blue_apart : blue a.colour ≡ blue (cell_colour cell)
  blue_apart = rw apart (omega arith)

-- one cell's three stored
pub guns_turn :
    (l ys cells : List ℕ) (k : ℕ) (a : Apart) → k < length cells → 3 * length cells ≤ length l → a ≡ apart_of (get_or cells k 0)
    → ys ≡ red a.colour ∷ green a.colour ∷ blue a.colour ∷ []
    → sets l (3 * k) (guns_of (drop k cells)) ≡ sets (put_mid (3 * k) (3 * k + 3 - 3 * k) l ys) (3 * (k + 1)) (guns_of (drop (k + 1) cells))
unfolding guns_of
guns_turn l ys cells k a h fits apart e =
    let x = get_or cells k 0 in
    let t : 3 * (k + 1) ≡ suc (suc (suc (3 * k))) = omega arith in
    rw (
      sets_range l (red a.colour ∷ green a.colour ∷ blue a.colour ∷ []) (3 * k) (3 * k + 3 - 3 * k) (omega arith) (omega arith) e,
      t,
      add-one,
      drop-cons cells k 0 h,
      red_apart x a apart,
      green_apart x a apart,
      blue_apart x a apart,
    )

-- the same by three stores
pub guns_stored : (l cells : List ℕ) (k r g b : ℕ) (a : Apart) → k < length cells → a ≡ apart_of (get_or cells k 0)
    → r ≡ red a.colour → g ≡ green a.colour → b ≡ blue a.colour
    → sets (set (set (set l (3 * k) r) (3 * k + 1) g) (3 * k + 2) b) (3 * (k + 1)) (guns_of (drop (k + 1) cells))
    ≡ sets l (3 * k) (guns_of (drop k cells))
unfolding guns_of
guns_stored l cells k r g b a h apart er eg eb =
    let x = get_or cells k 0 in
    let p : 3 * k + 1 ≡ suc (3 * k) = omega arith in
    let q : 3 * k + 2 ≡ suc (suc (3 * k)) = omega arith in
    let t : 3 * (k + 1) ≡ suc (suc (suc (3 * k))) = omega arith in
    rw (p, q, t, add-one, drop-cons cells k 0 h, er ∙ red_apart x a apart, eg ∙ green_apart x a apart, eb ∙ blue_apart x a apart)

pub guns_done : (l cells : List ℕ) (i k : ℕ) → length cells ≤ k → sets l i (guns_of (drop k cells)) ≡ l
unfolding guns_of
guns_done l cells i k h = rw (drop_of_length-le cells h)
