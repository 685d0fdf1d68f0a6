-- One turn of each loop over words, as stores of a list: what is left to store.
use mathlib.Core.Path.{◌≡◌, ◌∙◌}
use mathlib.Core.List.{List, [], ◌∷◌}
use mathlib.Core.Logic.{inl, inr}
use Prim.Native.Nat.{ℕ, suc, ◌+◌, ◌*◌, ◌/◌, ◌≤◌, ◌<◌, min}
use native.Mathlib.Numerals.{add-one}
use native.Mathlib.Omega.{arith}
use lib.ListN.{length, get_or, set, take, drop, drop_of_length-le, length-take}
use lib.Seq.{sets, drop-cons, get_or-take}
use Rattle.buffers.specs.Put.{text_in}
use Rattle.buffers.specs.Words.{word_at, words_of, bytes_of}
use Rattle.buffers.proofs.Puts.{text_short, text_fits}
use Rattle.buffers.proofs.Sets.{sets_turn, sets_done, sets_past}
use Rattle.buffers.proofs.Split.{lt_or_le}
use Rattle.buffers.proofs.Words.{words_at, length_words, length_bytes}

-- the words of a list's first bytes
module _ (bytes : List ℕ) (count : ℕ) where
  length_copied : length (words_of (take (4 * count) bytes)) ≡ min count (length bytes / 4)
  length_copied = omega (arith, length_words (take (4 * count) bytes), length-take (4 * count) bytes)

  copied_at : (k : ℕ) → k < min count (length bytes / 4) → get_or (words_of (take (4 * count) bytes)) k 0 ≡ word_at bytes (4 * k)
  copied_at k h =
      words_at (take (4 * count) bytes) k (omega (arith, length-take (4 * count) bytes))
      ∙ rw (
        get_or-take (4 * count) bytes (4 * k) 0 (omega arith),
        get_or-take (4 * count) bytes (4 * k + 1) 0 (omega arith),
        get_or-take (4 * count) bytes (4 * k + 2) 0 (omega arith),
        get_or-take (4 * count) bytes (4 * k + 3) 0 (omega arith),
      )

  pub copy_turn :
      (l : List ℕ) (k v : ℕ) → k < min count (length bytes / 4) → v ≡ word_at bytes (4 * k)
      → sets l k (drop k (words_of (take (4 * count) bytes))) ≡ sets (set l k v) (k + 1) (drop (k + 1) (words_of (take (4 * count) bytes)))
  copy_turn l k v h e = rw (e, ← copied_at k h) (sets_turn l (words_of (take (4 * count) bytes)) k 0 (omega (arith, length_copied)))

  -- the last of the words, or of the room
  pub copy_done : (l : List ℕ) (k : ℕ) → min (min count (length bytes / 4)) (length l) ≤ k → sets l k (drop k (words_of (take (4 * count) bytes))) ≡ l
  copy_done l k h = elim (lt_or_le k (length l)) [
    | inl b ↦ sets_done l (words_of (take (4 * count) bytes)) k k (omega (arith, length_copied))
    | inr a ↦ sets_past l (drop k (words_of (take (4 * count) bytes))) k a
  ]

pub put_turn :
    (words l m : List ℕ) (at k : ℕ) → k < length words → m ≡ sets l (at + 4 * k) (bytes_of (get_or words k 0 ∷ []))
    → sets l (at + 4 * k) (bytes_of (drop k words)) ≡ sets m (at + 4 * (k + 1)) (bytes_of (drop (k + 1) words))
unfolding bytes_of
put_turn words l m at k h e =
    let n : at + 4 * (k + 1) ≡ suc (suc (suc (suc (at + 4 * k)))) = omega arith in
    rw (e, n, add-one, drop-cons words k 0)

pub put_done : (words l : List ℕ) (i k : ℕ) → length words ≤ k → sets l i (bytes_of (drop k words)) ≡ l
unfolding bytes_of
put_done words l i k h = rw (drop_of_length-le words h)

-- the bytes of all words: none without room for all, all of them with it
module _ (words : List ℕ) (room : ℕ) where
  pub bytes_short : room / 4 < length words → text_in room (bytes_of words) ≡ []
  bytes_short h = text_short room (bytes_of words) (omega (arith, length_bytes words))

  pub bytes_fit : 4 * length words ≤ room → text_in room (bytes_of words) ≡ bytes_of words
  bytes_fit h = text_fits room (bytes_of words) (omega (arith, length_bytes words))
