-- The values of a byte, by a channel that may be past 7, and of one word more, as stores.
use Rattle.std.proofs.Common.{◌≡◌, ℕ, suc, ◌+◌, ◌*◌, ◌/◌, ◌%◌, ◌<◌, ◌≤◌, List, [], ◌∷◌, length, get_or, drop, set, ℤ, ap, ◌∙◌, add-one, arith}
use Rattle.std.proofs.Common.{drop_of_length-le, drop-cons, to_z, of_z, w16}
use lib.Seq.{sets}
use Rattle.buffers.specs.Words.{bytes_of}
use Rattle.sound.specs.Amplitude.{value_of}
use Rattle.sound.specs.Values.{channel_of, counter_after, values_of}
use Rattle.sound.specs.declared.Sides.{Sides}
use Rattle.sound.specs.declared.sixths.Sixths.{Sixths}
use Rattle.sound.specs.inner.Tables.{in_table, left_in, right_in, Few, Again}
use Rattle.sound.proofs.Signed.{stored}

-- A byte's values, as they are stored, are those of its counter.
pub record Stored (table : List Sixths) (counter byte : ℕ) (s : Sides) : Type 0 where
  pub left : to_z w16 (of_z w16 s.left) ≡ value_of byte (left_in table (channel_of counter))
  pub right : to_z w16 (of_z w16 s.right) ≡ value_of byte (right_in table (channel_of counter))

module _ (table : List Sixths) (few : Few table) (again : Again table) where
  -- a channel counted on past 7 gives a byte the values of its counter
  pub by_counter :
      (counter n byte x : ℕ) (s : Sides) → n < 11 → channel_of n ≡ channel_of counter → byte < 256 → x ≡ byte
      → s ≡ record { left = value_of x (left_in table n); right = value_of x (right_in table n) } → Stored table counter byte s
  by_counter counter n byte x s h e b f g =
      let same : in_table table n ≡ in_table table (channel_of counter) = again n h ∙ ap (in_table table) e in
      record {
        left = stored byte (left_in table n) s.left b (few n h).0 (ap (λ (t : Sides). t.left) g ∙ rw f) ∙ ap (λ (t : Sixths). value_of byte t.left) same;
        right = stored byte (right_in table n) s.right b (few n h).1 (ap (λ (t : Sides). t.right) g ∙ rw f) ∙ ap (λ (t : Sixths). value_of byte t.right) same;
      }

-- four steps of the counter are one step of four
four_steps : (c : ℕ) → counter_after (counter_after (counter_after (counter_after c 1) 1) 1) 1 ≡ counter_after c 4
four_steps c = omega arith

-- two values stored one after the other are a pair stored
pub byte_put : (l : List ℤ) (at : ℕ) (x y v w : ℤ) → x ≡ v → y ≡ w → set (set l at x) (at + 1) y ≡ sets l at (v ∷ w ∷ [])
byte_put l at x y v w e f = rw (e, f, add-one)

module _ (left right : ℕ → ℕ) where
  -- four bytes' values stored one after the other are a word's
  pub word_put :
      (l l1 l2 l3 l4 : List ℤ) (at word c c1 c2 c3 : ℕ)
      → c1 ≡ counter_after c 1 → c2 ≡ counter_after c1 1 → c3 ≡ counter_after c2 1
      → l1 ≡ sets l at (values_of left right c (word % 256 ∷ []))
      → l2 ≡ sets l1 (at + 2) (values_of left right c1 (word / 256 % 256 ∷ []))
      → l3 ≡ sets l2 (at + 4) (values_of left right c2 (word / 65536 % 256 ∷ []))
      → l4 ≡ sets l3 (at + 6) (values_of left right c3 (word / 16777216 % 256 ∷ []))
      → l4 ≡ sets l at (values_of left right c (bytes_of (word ∷ [])))
  unfolding values_of bytes_of
  word_put l l1 l2 l3 l4 at word c c1 c2 c3 e1 e2 e3 p1 p2 p3 p4 =
      let q2 : at + 2 ≡ suc (suc at) = omega arith in
      let q4 : at + 4 ≡ suc (suc (suc (suc at))) = omega arith in
      let q6 : at + 6 ≡ suc (suc (suc (suc (suc (suc at))))) = omega arith in
      p4 ∙ rw (p3, p2, p1, e3, e2, e1, q2, q4, q6)

  -- one byte's values stored
  pub byte_turn :
      (bytes : List ℕ) (l : List ℤ) (at next k c d : ℕ) (x y : ℤ) → k < length bytes → next ≡ at + 2 → d ≡ counter_after c 1
      → x ≡ value_of (get_or bytes k 0) (left (channel_of c)) → y ≡ value_of (get_or bytes k 0) (right (channel_of c))
      → sets l at (values_of left right c (drop k bytes)) ≡ sets (set (set l at x) (at + 1) y) next (values_of left right d (drop (k + 1) bytes))
  unfolding values_of
  byte_turn bytes l at next k c d x y h n e p q =
      let two : at + 2 ≡ suc (suc at) = omega arith in
      rw (p, q, e, n, two, add-one at, add-one k, drop-cons bytes k 0)

  pub bytes_done : (bytes : List ℕ) (l : List ℤ) (i k c : ℕ) → length bytes ≤ k → sets l i (values_of left right c (drop k bytes)) ≡ l
  unfolding values_of
  bytes_done bytes l i k c h = rw (drop_of_length-le bytes h)

  pub words_turn :
      (words : List ℕ) (l m : List ℤ) (k c c4 : ℕ) → k < length words → c4 ≡ counter_after c 4
      → m ≡ sets l (8 * k) (values_of left right c (bytes_of (get_or words k 0 ∷ [])))
      → sets l (8 * k) (values_of left right c (bytes_of (drop k words)))
      ≡ sets m (8 * (k + 1)) (values_of left right c4 (bytes_of (drop (k + 1) words)))
  unfolding values_of bytes_of
  words_turn words l m k c c4 h e p =
      let n : 8 * (k + 1) ≡ suc (suc (suc (suc (suc (suc (suc (suc (8 * k)))))))) = omega arith in
      rw (p, e, ← four_steps c, n, add-one k, drop-cons words k 0)

  pub words_done : (words : List ℕ) (l : List ℤ) (i k c : ℕ) → length words ≤ k → sets l i (values_of left right c (bytes_of (drop k words))) ≡ l
  unfolding values_of bytes_of
  words_done words l i k c h = rw (drop_of_length-le words h)
