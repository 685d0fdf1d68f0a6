-- What `guns` makes of cells is right to `read::colours`, and reads back as each cell's 12 bits of colour.
use Prim.Native.Nat.{ℕ, zero, suc, ◌+◌, ◌*◌, ◌/◌, ◌%◌, ◌<◌, ◌≤◌}
use mathlib.Core.Bool.{true}
use mathlib.Core.List.{List, [], ◌∷◌}
use mathlib.Core.Path.{◌≡◌, refl}
use native.Mathlib.Nat.{not-suc-le-zero, le_of_suc-le-suc}
use native.Mathlib.Omega.{arith}
use borrow.Author.Tests.{eq-eqb, le-leb}
use lib.ListN.{length, get_or}
use Rattle.buffers.specs.Bits.{bits}
use Rattle.buffers.specs.Painted.{painted}
use Rattle.buffers.proofs.Paints.{paints_of, paints_painted, paint_as}
use Rattle.std.proofs.lemmas.Bool.{and_from}
use Rattle.colours.specs.Cells.{cell_colour}
use Rattle.colours.specs.Guns.{red_gun, green_gun, blue_gun}
use Rattle.pictures.specs.Colours.{red, green, blue, guns_of}
use Rattle.pictures.specs.Each.{each}
use Rattle.pictures.specs.Read.{is_gun, colour_read, colour_read_at, read_right, read_leaves}
use Rattle.pictures.proofs.Stored.{length_guns}

-- Each byte is 17 times a gun,
pub guns_all : (cells : List ℕ) → each is_gun (guns_of cells) ≡ true
unfolding guns_of each
guns_all [] = refl
guns_all (x ∷ xs) =
    let r : red (cell_colour x) % 17 ≡ 0 = omega arith in
    let g : green (cell_colour x) % 17 ≡ 0 = omega arith in
    let b : blue (cell_colour x) % 17 ≡ 0 = omega arith in
    rw (r, g, b, guns_all xs)

-- so that all are right where there is room for the cells,
pub guns_right : (cells : List ℕ) (room : ℕ) → length cells ≤ room → read_right (guns_of cells) room ≡ true
guns_right cells room h =
    and_from _ _
    (and_from _ _ (guns_all cells) (eq-eqb (length (guns_of cells) % 3) 0 (omega (arith, length_guns cells))))
    (le-leb (length (guns_of cells) / 3) room (omega (arith, length_guns cells)))

-- The guns of a cell, put together, are its 12 bits of colour:
gun_back : (gun : ℕ) → 17 * gun / 17 ≡ gun
gun_back gun = omega arith

three_back : (x : ℕ) → colour_read (red (cell_colour x)) (green (cell_colour x)) (blue (cell_colour x)) ≡ bits 11 0 x
three_back x =
    let c = cell_colour x in
    let q : c / 256 ≡ c / 16 / 16 = omega arith in
    rw (gun_back (red_gun c), gun_back (green_gun c), gun_back (blue_gun c), q) (omega arith)

-- each three reads as its cell's.
pub guns_at : (cells : List ℕ) (k : ℕ) → k < length cells → colour_read_at (guns_of cells) k ≡ bits 11 0 (get_or cells k 0)
unfolding guns_of
guns_at [] k h = absurd (not-suc-le-zero h)
guns_at (x ∷ xs) zero h = three_back x
guns_at (x ∷ xs) (suc k) h =
    let p : 3 * suc k ≡ suc (suc (suc (3 * k))) = omega arith in
    let q : 3 * suc k + 1 ≡ suc (suc (suc (3 * k + 1))) = omega arith in
    let r : 3 * suc k + 2 ≡ suc (suc (suc (3 * k + 2))) = omega arith in
    rw (q, r, p) (guns_at xs k (le_of_suc-le-suc h))

-- What is read of a call's bytes, in lent colours with room.
pub guns_back : (cells o : List ℕ) → length cells ≤ length o → read_leaves (guns_of cells) o ≡ painted o 0 (length cells) (λ k. bits 11 0 (get_or cells k 0))
guns_back cells o room =
    let e : length (guns_of cells) / 3 ≡ length cells = omega (arith, length_guns cells) in
    rw (guns_right cells (length o) room, e)
    (paints_painted {d = 0} room
    (paint_as (λ k. bits 11 0 (get_or cells k 0)) (λ k a h. guns_at cells k h)
    (paints_of {d = 0} {l = o} {a = 0} {f = colour_read_at (guns_of cells)} room refl)))
