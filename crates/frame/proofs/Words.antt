-- Cells of words, a byte at a time: which cells of the table of bytes the pixels of a word and of a list have.
use Prim.Native.Nat.{ℕ, ◌+◌, ◌*◌, ◌/◌, ◌%◌, ◌^◌, ◌<◌, ◌≤◌}
use mathlib.Core.Path.{◌≡◌}
use mathlib.Core.List.{List}
use mathlib.Core.Logic.{inl, inr}
use native.Mathlib.Nat.{mod-lt, mul-le-mul_right, div-lt_iff_lt-mul}
use native.Mathlib.Omega.{arith}
use lib.ListN.{get_or}
use Rattle.registers.specs.inner.Accepted.{Depth}
use Rattle.frame.specs.inner.Ink.{word_ink, words_ink}
use Rattle.cells.proofs.PixelPlaces.{past_bytes, past_pixels}

-- Part j of so many parts has room.
pub part_room : (j parts count : ℕ) → j < parts → j * count + count ≤ parts * count
part_room j parts count h = omega (arith, mul-le-mul_right count h)

-- Pixel i of a word stands in one of its four bytes, and that byte's cells in the table.
module _ (w i per : ℕ) (some : 0 < per) where
  pub in_word : i < 4 * per → i / per < 4
  in_word h = (div-lt_iff_lt-mul some).1 h

  pub in_table : per ≤ 8 → w / 2 ^ (8 * (i / per)) % 256 * per + i % per < 2048
  in_table few =
      let b : w / 2 ^ (8 * (i / per)) % 256 < 256 = mod-lt _ (omega arith) in
      omega (arith, part_room (w / 2 ^ (8 * (i / per)) % 256) 256 per b, mod-lt i some)

-- The bytes of word q of a list.
pub word_same : (table ws : List ℕ) (per q j : ℕ) → j < 4 * per → word_ink table (get_or ws q 0) per j ≡ words_ink table ws per (q * (4 * per) + j)
unfolding word_ink words_ink
word_same table ws per q j h =
    let some : 0 < per = omega arith in
    let b : j / per < 4 = (div-lt_iff_lt-mul some).1 h in
    let e : q * (4 * per) + j ≡ q * 4 * per + j = omega arith in
    let word : (q * 4 + j / per) / 4 ≡ q = omega arith in
    let byte : (q * 4 + j / per) % 4 ≡ j / per = omega arith in
    rw (past_bytes (q * (4 * per) + j) per (q * 4) j e some, past_pixels (q * (4 * per) + j) per (q * 4) j e, word, byte)

-- A depth that is none of the three greater ones is 1, and one that is not 8 is at most 4.
pub depth_one : {d : ℕ} → Depth d → (d ≡ 8 → ⊥) → (d ≡ 4 → ⊥) → (d ≡ 2 → ⊥) → d ≡ 1
depth_one (inl e) a b c = e
depth_one (inr (inl e)) a b c = absurd (c e)
depth_one (inr (inr (inl e))) a b c = absurd (b e)
depth_one (inr (inr (inr e))) a b c = absurd (a e)

pub depth_few : {d : ℕ} → Depth d → (d ≡ 8 → ⊥) → d ≤ 4
depth_few (inl e) a = omega arith
depth_few (inr (inl e)) a = omega arith
depth_few (inr (inr (inl e))) a = omega arith
depth_few (inr (inr (inr e))) a = absurd (a e)
