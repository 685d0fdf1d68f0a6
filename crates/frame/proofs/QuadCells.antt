-- Four cells of 16 bits added in 64: each is read back at its place.
use Prim.Native.Nat.{ℕ, zero, suc, ◌+◌, ◌*◌, ◌/◌, ◌%◌, ◌^◌, ◌<◌}
use mathlib.Core.Path.{◌≡◌, refl, sym, ◌∙◌}
use mathlib.Core.List.{List}
use native.Mathlib.Nat.{div-one, mod-one, mul-one, add-zero, mod-lt}
use native.Mathlib.Omega.{arith}
use lib.ListN.{get_or, take, drop}
use Rattle.std.specs.Int.{w32, to_le_bytes}
use Rattle.buffers.specs.Words.{byte_of}
use Rattle.cells.proofs.PixelPlaces.{past_bytes, past_pixels, byte_part}
use Rattle.frame.specs.inner.Ink.{quad_cell, word_ink, words_ink}
use Rattle.frame.specs.inner.Quads.{Cells, Joined, Quads, Four}
use Rattle.frame.proofs.Words.{word_same}

-- The cell that byte j of a word has, one to a byte.
pub word_cell : (table : List ℕ) (w j : ℕ) → word_ink table w 1 j ≡ get_or table (w / 2 ^ (8 * j) % 256) 0
unfolding word_ink
word_cell table w j = rw (div-one j, mod-one j, mul-one (w / 2 ^ (8 * j) % 256), add-zero (w / 2 ^ (8 * j) % 256))

-- Four numbers of 16 bits, as they are added and as each is read back.
abbrev pub sum : ℕ → ℕ → ℕ → ℕ → ℕ
sum a b c d = a + b * 65536 + c * 4294967296 + d * 281474976710656

module _ (a b c d : ℕ) (p : a < 65536) (q : b < 65536) (r : c < 65536) (s : d < 65536) where
  cell_0 : quad_cell (sum a b c d) 0 ≡ a
  unfolding quad_cell
  cell_0 = let e : 2 ^ (16 * 0) ≡ 1 = refl in rw (e, div-one (sum a b c d)) (omega arith)

  cell_1 : quad_cell (sum a b c d) 1 ≡ b
  unfolding quad_cell
  cell_1 = let e : 2 ^ (16 * 1) ≡ 65536 = refl in rw e (omega arith)

  cell_2 : quad_cell (sum a b c d) 2 ≡ c
  unfolding quad_cell
  cell_2 = let e : 2 ^ (16 * 2) ≡ 4294967296 = refl in rw e (omega arith)

  cell_3 : quad_cell (sum a b c d) 3 ≡ d
  unfolding quad_cell
  cell_3 = let e : 2 ^ (16 * 3) ≡ 281474976710656 = refl in rw e (omega arith)

-- What `quad` adds.
module _ (quads : List ℕ) (joined : Joined quads) (w : ℕ) where
  -- The cell of byte j.
  abbrev pub cell_of : ℕ → ℕ
  cell_of j = get_or quads (w / 2 ^ (8 * j) % 256) 0

  cell_small : (j : ℕ) → cell_of j < 65536
  cell_small j = joined.small (w / 2 ^ (8 * j) % 256) (mod-lt _ (omega arith))

  at_place : (j b : ℕ) → j < 4 → b ≡ w / 2 ^ (8 * j) % 256 → get_or quads (256 * j + b) 0 ≡ cell_of j * 2 ^ (16 * j)
  at_place j b h e = rw e (joined.moved j (w / 2 ^ (8 * j) % 256) h (mod-lt _ (omega arith)))

  -- The cell of each byte at its place, and that it is small.
  pub record Added (bytes : List ℕ) : Type 0 where
    pub lowest : get_or quads (get_or bytes 0 0) 0 ≡ cell_of 0
    pub place_1 : get_or quads (256 + get_or bytes 1 0) 0 ≡ cell_of 1 * 65536
    pub place_2 : get_or quads (512 + get_or bytes 2 0) 0 ≡ cell_of 2 * 4294967296
    pub place_3 : get_or quads (768 + get_or bytes 3 0) 0 ≡ cell_of 3 * 281474976710656
    pub small_0 : cell_of 0 < 65536
    pub small_1 : cell_of 1 < 65536
    pub small_2 : cell_of 2 < 65536
    pub small_3 : cell_of 3 < 65536

  pub four_added : (bytes : List ℕ) → bytes ≡ to_le_bytes w32 w → Added bytes
  four_added bytes is =
      rw is
      (record {
        lowest = let e : 2 ^ (8 * 0) ≡ 1 = refl in rw (e, div-one w);
        place_1 = at_place 1 (w / 2 ^ 8 % 256) (omega arith) refl;
        place_2 = at_place 2 (w / 2 ^ 16 % 256) (omega arith) refl;
        place_3 = at_place 3 (w / 2 ^ 24 % 256) (omega arith) refl;
        small_0 = cell_small 0;
        small_1 = cell_small 1;
        small_2 = cell_small 2;
        small_3 = cell_small 3;
      })

  -- What holds of any four numbers of 16 bits holds of the four cells.
  four : {P : ℕ → ℕ → ℕ → ℕ → Type 0} → ((a b c d : ℕ) → a < 65536 → b < 65536 → c < 65536 → d < 65536 → P a b c d)
      → P (cell_of 0) (cell_of 1) (cell_of 2) (cell_of 3)
  four law = law (cell_of 0) (cell_of 1) (cell_of 2) (cell_of 3) (cell_small 0) (cell_small 1) (cell_small 2) (cell_small 3)

  pub quad_cells : (x : ℕ) → x ≡ sum (cell_of 0) (cell_of 1) (cell_of 2) (cell_of 3) → Four quads w x
  quad_cells x e = record { cell = cell }
    where
      cell : (j : ℕ) → j < 4 → quad_cell x j ≡ word_ink quads w 1 j
      cell zero h = rw e (four cell_0 ∙ sym (word_cell quads w 0))
      cell (suc zero) h = rw e (four cell_1 ∙ sym (word_cell quads w 1))
      cell (suc (suc zero)) h = rw e (four cell_2 ∙ sym (word_cell quads w 2))
      cell (suc (suc (suc zero))) h = rw e (four cell_3 ∙ sym (word_cell quads w 3))
      cell (suc (suc (suc (suc j)))) h = absurd (omega arith)

-- The table of quads, as the machine makes it: the cells of the bytes below n stand at their four places.
abbrev pub Placed : List ℕ → List ℕ → ℕ → Type 0
Placed table quads n = (j b : ℕ) → j < 4 → b < n → get_or quads (256 * j + b) 0 ≡ get_or table b 0 * 2 ^ (16 * j)

pub quads_right : (table quads : List ℕ) → Cells table → Placed table quads 256 → Quads table quads
quads_right table quads cells placed =
    record {
      joined = record { small = λ b l. rw (same b l) (cells.small b l); moved = λ j b h l. rw (same b l) (placed j b h l) };
      same = same;
    }
  where
    same : (b : ℕ) → b < 256 → get_or quads b 0 ≡ get_or table b 0
    same b l =
        let k : 256 * 0 + b ≡ b = omega arith in
        let e : get_or table b 0 * 2 ^ (16 * 0) ≡ get_or table b 0 = mul-one (get_or table b 0) in
        rw (k, e) at (placed 0 b (omega arith) l)

-- The cells of word q of a list.
pub quad_same : (quads ws : List ℕ) (q x j : ℕ) → Four quads (get_or ws q 0) x → j < 4 → quad_cell x j ≡ words_ink quads ws 1 (4 * q + j)
quad_same quads ws q x j four h =
    let e : q * (4 * 1) + j ≡ 4 * q + j = omega arith in
    rw (← e) (four.cell j h ∙ word_same quads ws 1 q j h)

-- Those of a part of a list, from word q on, are those of the list.
pub part_same : (quads ws : List ℕ) (q m a j : ℕ) → a ≡ 4 * q → j < 4 * m → words_ink quads (take m (drop q ws)) 1 j ≡ words_ink quads ws 1 (a + j)
unfolding words_ink
part_same quads ws q m a j start h =
    let b : j / 1 < m * 4 = rw (div-one j) (omega arith) in
    let e : a + j ≡ q * 4 * 1 + j = omega arith in
    rw (past_bytes (a + j) 1 (q * 4) j e (omega arith), past_pixels (a + j) 1 (q * 4) j e, byte_part ws q m (j / 1) b)

-- A word's cells from the table of quads are those from the table of bytes.
pub quads_shown : (table quads ws : List ℕ) (i : ℕ) → Quads table quads → words_ink quads ws 1 i ≡ words_ink table ws 1 i
unfolding words_ink
quads_shown table quads ws i q =
    rw (mod-one i, mul-one (byte_of ws (i / 1)), add-zero (byte_of ws (i / 1))) (q.same (byte_of ws (i / 1)) (mod-lt _ (omega arith)))
