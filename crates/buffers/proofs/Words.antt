-- Words and their bytes: lengths, the word at a place, and that each way back gives what it came from.
use mathlib.Core.Path.{◌≡◌, refl, sym, ◌∙◌, ap}
use mathlib.Core.List.{List, [], ◌∷◌, ◌++◌}
use Prim.Native.Nat.{ℕ, zero, suc, ◌+◌, ◌*◌, ◌-◌, ◌/◌, ◌%◌, ◌^◌, ◌≤◌, ◌<◌}
use native.Mathlib.Numerals.{add-one}
use native.Mathlib.Nat.{add-zero}
use native.Mathlib.Omega.{arith}
use lib.ListN.{length, get_or, drop, take}
use lib.Seq.{drop-cons, drop-drop, get_or-drop}
use Rattle.buffers.specs.Words.{Below, word, word_at, words_of, bytes_of, byte_of}

pub below_append : (n : ℕ) (xs ys : List ℕ) → Below n xs → Below n ys → Below n (xs ++ ys)
below_append n [] ys p q i = q i
below_append n (x ∷ xs) ys p q zero = p 0
below_append n (x ∷ xs) ys p q (suc i) = below_append n xs ys (λ j. p (suc j)) q i

pub below_take : (n k : ℕ) (l : List ℕ) → 0 < n → Below n l → Below n (take k l)
below_take n zero l z h i = z
below_take n (suc k) [] z h i = z
below_take n (suc k) (x ∷ l) z h zero = h 0
below_take n (suc k) (x ∷ l) z h (suc i) = below_take n k l z (λ j. h (suc j)) i

pub below_drop : (n k : ℕ) (l : List ℕ) → Below n l → Below n (drop k l)
below_drop n k l h i = rw get_or-drop (h (k + i))

pub length_bytes : (ws : List ℕ) → length (bytes_of ws) ≡ 4 * length ws
unfolding bytes_of
length_bytes [] = refl
length_bytes (w ∷ ws) = omega (arith, length_bytes ws)

pub bytes_append : (xs ys : List ℕ) → bytes_of (xs ++ ys) ≡ bytes_of xs ++ bytes_of ys
unfolding bytes_of
bytes_append [] ys = refl
bytes_append (x ∷ xs) ys = rw (bytes_append xs ys)

pub length_words : (bs : List ℕ) → length (words_of bs) ≡ length bs / 4
unfolding words_of
length_words [] = refl
length_words (a ∷ []) = refl
length_words (a ∷ b ∷ []) = refl
length_words (a ∷ b ∷ c ∷ []) = refl
length_words (a ∷ b ∷ c ∷ d ∷ bs) = omega (arith, length_words bs)

-- one word more
pub words_cons : (bs : List ℕ) (k : ℕ) → k + 4 ≤ length bs → words_of (drop k bs) ≡ word_at bs k ∷ words_of (drop (k + 4) bs)
unfolding words_of
words_cons bs k h =
    let q : k + 4 ≡ suc (suc (suc (suc k))) = omega arith in
    let a : k + 1 ≡ suc k = omega arith in
    let b : k + 2 ≡ suc (suc k) = omega arith in
    let c : k + 3 ≡ suc (suc (suc k)) = omega arith in
    let h0 : k < length bs = omega arith in
    let h1 : suc k < length bs = omega arith in
    let h2 : suc (suc k) < length bs = omega arith in
    let h3 : suc (suc (suc k)) < length bs = omega arith in
    rw (
      q,
      a,
      b,
      c,
      drop-cons bs k 0 h0,
      drop-cons bs (suc k) 0 h1,
      drop-cons bs (suc (suc k)) 0 h2,
      drop-cons bs (suc (suc (suc k))) 0 h3,
    )

pub words_drop : (k : ℕ) (bs : List ℕ) → 4 * k ≤ length bs → drop k (words_of bs) ≡ words_of (drop (4 * k) bs)
words_drop zero bs h = refl
words_drop (suc k) bs h =
    let q : 4 * suc k ≡ 4 * k + 4 = omega arith in
    ap (λ (n : ℕ). drop n (words_of bs)) (sym (add-one k))
    ∙ sym (drop-drop 1 k (words_of bs))
    ∙ ap (drop 1) (words_drop k bs (omega arith) ∙ words_cons bs (4 * k) (omega arith))
    ∙ ap (λ (n : ℕ). words_of (drop n bs)) (sym q)

-- the word at each place
pub words_at : (bs : List ℕ) (k : ℕ) → 4 * k + 4 ≤ length bs → get_or (words_of bs) k 0 ≡ word_at bs (4 * k)
words_at bs k h =
    ap (λ (n : ℕ). get_or (words_of bs) n 0) (sym (add-zero k))
    ∙ sym (get_or-drop k (words_of bs) 0 0)
    ∙ ap (λ (l : List ℕ). get_or l 0 0) (words_drop k bs (omega arith) ∙ words_cons bs (4 * k) (omega arith))

digits : (a b c d w p q : ℕ) → w ≡ a + p * 256 → p ≡ b + q * 256 → q ≡ c + d * 256 → word a b c d ≡ w
digits a b c d w p q e f g = omega arith

top : (q : ℕ) → q < 65536 → q ≡ q % 256 + q / 256 % 256 * 256
top q h = omega arith

-- a number below 2^32 is the word of its four bytes
pub word_back : (w : ℕ) → w < 2 ^ 32 → word (w % 256) (w / 256 % 256) (w / 65536 % 256) (w / 16777216 % 256) ≡ w
word_back w h =
    let a : w / 65536 ≡ w / 256 / 256 = omega arith in
    let b : w / 16777216 ≡ w / 256 / 256 / 256 = omega arith in
    let p : w ≡ w % 256 + w / 256 * 256 = omega arith in
    let q : w / 256 ≡ w / 256 % 256 + w / 256 / 256 * 256 = omega arith in
    let r : w / 256 / 256 ≡ w / 256 / 256 % 256 + w / 256 / 256 / 256 % 256 * 256 = top (w / 256 / 256) (omega (arith, a)) in
    rw (a, b) (digits _ _ _ _ w (w / 256) (w / 256 / 256) p q r)

pub words_back : (ws : List ℕ) → Below (2 ^ 32) ws → words_of (bytes_of ws) ≡ ws
unfolding words_of bytes_of
words_back [] h = refl
words_back (w ∷ ws) h = rw (word_back w (h 0), words_back ws (λ i. h (suc i)))

-- and the bytes of the word of four bytes are those
module _ (a b c d : ℕ) (ha : a < 256) (hb : b < 256) (hc : c < 256) (hd : d < 256) where
  byte0 : word a b c d % 256 ≡ a
  byte0 = omega arith

  byte1 : word a b c d / 256 % 256 ≡ b
  byte1 = omega arith

  byte2 : word a b c d / 65536 % 256 ≡ c
  byte2 = omega arith

  byte3 : word a b c d / 16777216 % 256 ≡ d
  byte3 = omega arith

  four_back : bytes_of (word a b c d ∷ []) ≡ a ∷ b ∷ c ∷ d ∷ []
  unfolding bytes_of
  four_back = rw (byte0, byte1, byte2, byte3)

no_1 : (n : ℕ) → 1 ≡ 4 * n → ⊥
no_1 n e = omega arith

no_2 : (n : ℕ) → 2 ≡ 4 * n → ⊥
no_2 n e = omega arith

no_3 : (n : ℕ) → 3 ≡ 4 * n → ⊥
no_3 n e = omega arith

pub bytes_back : (n : ℕ) (bs : List ℕ) → length bs ≡ 4 * n → Below 256 bs → bytes_of (words_of bs) ≡ bs
unfolding words_of bytes_of
bytes_back n [] e h = refl
bytes_back n (a ∷ []) e h = absurd (no_1 n e)
bytes_back n (a ∷ b ∷ []) e h = absurd (no_2 n e)
bytes_back n (a ∷ b ∷ c ∷ []) e h = absurd (no_3 n e)
bytes_back n (a ∷ b ∷ c ∷ d ∷ bs) e h =
    ap (λ (l : List ℕ). l ++ bytes_of (words_of bs)) (four_back a b c d (h 0) (h 1) (h 2) (h 3))
    ∙ ap (λ (l : List ℕ). a ∷ b ∷ c ∷ d ∷ l) (bytes_back (n - 1) bs (omega arith) (λ i. h (suc (suc (suc (suc i))))))

pub bytes_at : (ws : List ℕ) (k : ℕ) → k < 4 * length ws → get_or (bytes_of ws) k 0 ≡ byte_of ws k
unfolding bytes_of
bytes_at [] k h = absurd (omega arith)
bytes_at (w ∷ ws) zero h = omega arith
bytes_at (w ∷ ws) (suc zero) h = refl
bytes_at (w ∷ ws) (suc (suc zero)) h = refl
bytes_at (w ∷ ws) (suc (suc (suc zero))) h = refl
bytes_at (w ∷ ws) (suc (suc (suc (suc k)))) h =
    let q : suc (suc (suc (suc k))) / 4 ≡ suc (k / 4) = omega arith in
    let r : suc (suc (suc (suc k))) % 4 ≡ k % 4 = omega arith in
    bytes_at ws k (omega arith) ∙ rw (q, r)
