-- The plate of four lists is right, and reads back as those lists.
use mathlib.Core.Path.{◌≡◌}
use mathlib.Core.Bool.{true}
use mathlib.Core.List.{List, [], ◌∷◌, ◌++◌}
use Prim.Native.Nat.{ℕ, zero, suc, ◌+◌, ◌*◌, ◌-◌, ◌^◌, ◌≤◌, ◌<◌}
use native.Mathlib.Omega.{arith}
use lib.ListN.{length, get_or, take, length-append}
use lib.Seq.{get_or-append-add, take_at}
use borrow.Author.Tests.{le-leb, eq-eqb}
use Rattle.buffers.specs.Words.{word_at, words_of, bytes_of, Below}
use Rattle.buffers.proofs.Words.{below_append, bytes_append, length_bytes, words_at, words_back}
use Rattle.refusals.specs.Table.{given}
use Rattle.plates.specs.Plate.{most_bytes, r_of, v_of, c_of, s_of, right, sections_by, trailer_of, plate_of, plate_length}
use Rattle.plates.specs.Read.{read_told, copied}

below_four : (n a b c d : ℕ) → a < n → b < n → c < n → d < n → Below n (a ∷ b ∷ c ∷ d ∷ [])
below_four n a b c d p q r s zero = p
below_four n a b c d p q r s (suc zero) = q
below_four n a b c d p q r s (suc (suc zero)) = r
below_four n a b c d p q r s (suc (suc (suc zero))) = s
below_four n a b c d p q r s (suc (suc (suc (suc i)))) = omega arith

module _ (rs vs cs ss : List ℕ) where
  abbrev all : List ℕ
  all = rs ++ vs ++ cs ++ ss

  length_all : length all ≡ length rs + (length vs + (length cs + length ss))
  length_all = omega (arith, length-append rs vs, length-append (rs ++ vs) cs, length-append (rs ++ vs ++ cs) ss)

  length_whole : length (all ++ trailer_of rs vs cs ss) ≡ length all + 4
  length_whole = length-append all (trailer_of rs vs cs ss)

  pub length_plate : length (plate_of rs vs cs ss) ≡ plate_length rs vs cs ss
  unfolding plate_of
  length_plate = omega (arith, length_bytes (all ++ trailer_of rs vs cs ss), length_whole, length_all)

-- the four lists, and that their plate fits
module _
    (rs vs cs ss : List ℕ) (br : Below (2 ^ 32) rs) (bv : Below (2 ^ 32) vs) (bc : Below (2 ^ 32) cs) (bs : Below (2 ^ 32) ss)
    (fits : plate_length rs vs cs ss ≤ most_bytes) where
  abbrev ws : List ℕ
  ws = all rs vs cs ss

  abbrev ts : List ℕ
  ts = trailer_of rs vs cs ss

  abbrev plate : List ℕ
  plate = plate_of rs vs cs ss

  below_all : Below (2 ^ 32) ws
  below_all = below_append _ (rs ++ vs ++ cs) ss (below_append _ (rs ++ vs) cs (below_append _ rs vs br bv) bc) bs

  below_whole : Below (2 ^ 32) (ws ++ ts)
  below_whole =
      below_append _ ws ts below_all
      (below_four (2 ^ 32) (length rs + (length vs + (length cs + length ss))) (length vs + (length cs + length ss)) (length cs + length ss) (length ss)
      (omega arith) (omega arith) (omega arith) (omega arith))

  -- the trailer's word i
  trailer_word : (i n : ℕ) → i < 4 → n ≡ length plate - 16 + 4 * i → word_at plate n ≡ get_or ts i 0
  unfolding plate_of
  trailer_word i n h e =
      let whole = ws ++ ts in
      let at : n ≡ 4 * (length ws + i) = omega (arith, length_plate rs vs cs ss, length_all rs vs cs ss) in
      let bytes = words_at (bytes_of whole) (length ws + i) (omega (arith, length_bytes whole, length_whole rs vs cs ss)) in
      rw (at, ← bytes, words_back whole below_whole) (get_or-append-add ws ts i 0)

  big : 16 ≤ length plate
  big = omega (arith, length_plate rs vs cs ss)

  r_is : r_of plate ≡ length rs + (length vs + (length cs + length ss))
  r_is = trailer_word 0 _ (omega arith) (omega arith)

  v_is : v_of plate ≡ length vs + (length cs + length ss)
  v_is = trailer_word 1 _ (omega arith) (omega (arith, big))

  c_is : c_of plate ≡ length cs + length ss
  c_is = trailer_word 2 _ (omega arith) (omega (arith, big))

  s_is : s_of plate ≡ length ss
  s_is = trailer_word 3 _ (omega arith) (omega (arith, big))

  is_right : right plate ≡ true
  is_right =
      rw (
        r_is,
        v_is,
        c_is,
        s_is,
        length_plate rs vs cs ss,
        le-leb 16 (plate_length rs vs cs ss) (omega arith),
        le-leb (plate_length rs vs cs ss) most_bytes fits,
        le-leb (length vs + (length cs + length ss)) (length rs + (length vs + (length cs + length ss))) (omega arith),
        le-leb (length cs + length ss) (length vs + (length cs + length ss)) (omega arith),
        le-leb (length ss) (length cs + length ss) (omega arith),
        eq-eqb (4 * (length rs + (length vs + (length cs + length ss))) + 16) (plate_length rs vs cs ss) (omega arith),
      )

  -- reading answers the sections of the lists
  pub plate_read :
      read_told plate
      ≡ given (sections_by (length rs + (length vs + (length cs + length ss))) (length vs + (length cs + length ss)) (length cs + length ss) (length ss))
  unfolding read_told
  plate_read = rw (is_right, r_is, v_is, c_is, s_is)

  taken : (n : ℕ) → n ≡ length ws → words_of (take (4 * n) plate) ≡ ws
  unfolding plate_of
  taken n e =
      rw (bytes_append ws ts, take_at (bytes_of ws) (bytes_of ts) (4 * n) (omega (arith, length_bytes ws)))
      (words_back ws below_all)

  -- and copying out answers the lists in order
  pub plate_copied : copied plate ≡ rs ++ vs ++ cs ++ ss
  plate_copied = rw r_is (taken (length rs + (length vs + (length cs + length ss))) (omega (arith, length_all rs vs cs ss)))
