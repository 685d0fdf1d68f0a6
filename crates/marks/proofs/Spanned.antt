-- The pixels of whole words: by masks, by flags, and as a sum, word after word; the mask and the flags tell of the same pixels.
use Prim.Native.Nat.{ℕ, zero, suc, ◌+◌, ◌*◌, ◌/◌, ◌%◌, ◌^◌, ◌<◌, ◌≤◌}
use mathlib.Core.Bool.{Bool, true, false}
use mathlib.Core.List.{List, []}
use mathlib.Core.Logic.{inl, inr}
use mathlib.Core.Path.{◌≡◌, refl, sym, ◌∙◌, ap}
use native.Mathlib.Nat.{zero-add, div-one, mod-lt, mod-eq_of_lt}
use native.Mathlib.Numerals.{add-one}
use native.Mathlib.Omega.{arith}
use borrow.Author.Tests.{lt-ltb, le-ltb, ne_eqb, eqb-true, eqb-false}
use lib.Bits.{bit_or}
use lib.Dec.{ltb, eqb}
use lib.ListN.{length, get_or, set, replicate, drop}
use Rattle.std.specs.Simd.{first_chunks}
use Rattle.std.proofs.Common.{get_or-take, get_or-drop}
use Rattle.buffers.specs.Pick.{pick}
use Rattle.buffers.proofs.Split.{lt_or_le}
use Rattle.buffers.proofs.Paints.{Paints, paints_of}
use Rattle.marks.specs.Count.{total, bit}
use Rattle.marks.specs.inner.Bright.{Tabled, AtMost, field, field_bright, byte_bright, word_bright, word_bright_at}
use Rattle.marks.specs.inner.Seen.{only, bytes_only, words_seen, Flagged, Masked, Masks, word_mask, words_mask, mask_times}
use Rattle.marks.proofs.Flags.{only_at, flagged_none, flagged_as, flagged_join, flagged_one}
use Rattle.marks.proofs.Held.{bit_on, bits_low, masked_none, masked_as, masked_or}
use Rattle.marks.proofs.Tabled.{word_most}
use Rattle.marks.proofs.Totals.{sum_more, total_more, total_as, total_none, total_most, sums_more}

pub bytes_only_holds : (d q : ℕ) → Tabled (bytes_only d q) 256 (byte_bright (only q) d)
unfolding bytes_only
bytes_only_holds d q =
    let p : Paints 0 (replicate 256 0) (bytes_only d q) 0 256 (byte_bright (only q) d) = paints_of (omega arith) refl in
    record { len = p.len; on = λ k l. p.on k (omega arith) l }

-- A word's four bytes, where two tables have the same for each byte.
word_as : (bytes others : List ℕ) (w : ℕ) → ((b : ℕ) → b < 256 → get_or bytes b 0 ≡ get_or others b 0) → word_bright bytes w ≡ word_bright others w
word_as bytes others w e =
    omega (
      arith,
      e (w % 256) (mod-lt _ (omega arith)),
      e (w / 0x100 % 256) (mod-lt _ (omega arith)),
      e (w / 0x1_0000 % 256) (mod-lt _ (omega arith)),
      e (w / 0x100_0000 % 256) (mod-lt _ (omega arith)),
    )

-- One word more in a sum, in a mask, and among flags.
module _ (ws : List ℕ) (n : ℕ) where
  pub mask_more : {mask v : ℕ} (masks : List ℕ) → mask ≡ words_mask masks ws n → v ≡ word_mask masks (get_or ws n 0)
      → bit_or mask v ≡ words_mask masks ws (n + 1)
  unfolding words_mask
  mask_more masks e f = rw (add-one, e, f)

  pub flags_more : {old mid new : List ℕ} → Flagged old mid (λ q. total (word_bright_at (only q) ws) n)
      → Flagged mid new (λ q. word_bright (only q) (get_or ws n 0)) → Flagged old new (λ q. total (word_bright_at (only q) ws) (n + 1))
  flags_more f h = flagged_as (λ q m. ap (ltb 0) (sym (total_more (word_bright_at (only q) ws) n))) (flagged_join f h)

pub words_most : (bytes ws : List ℕ) (n : ℕ) → AtMost bytes 255 → total (word_bright_at bytes ws) n ≤ n * 1020
words_most bytes ws n m = total_most (word_bright_at bytes ws) 1020 n (λ k h. word_most bytes (get_or ws k 0) m)

pub span_most : {sum : ℕ} (bytes ws : List ℕ) (n : ℕ) → AtMost bytes 255 → n ≤ 512 → sum ≡ total (word_bright_at bytes ws) n → sum ≤ 1020 * 512
span_most bytes ws n m l e = omega (arith, e, words_most bytes ws n m)

-- What a loop over words by masks goes by.
pub ruleset word_more = (sum_more, mask_more, words_most)

-- Word j of the list's four i.
pub four_at : (m : ℕ) (ws d : List ℕ) (i j : ℕ) → i < m → j < 4 → get_or (get_or (first_chunks 4 m ws) i d) j 0 ≡ get_or ws (4 * i + j) 0
four_at zero ws d i j l h = absurd (omega arith)
four_at (suc m) ws d zero j l h = get_or-take 4 ws j 0 h ∙ ap (λ k. get_or ws k 0) (omega arith)
four_at (suc m) ws d (suc i) j l h =
    four_at m (drop 4 ws) d i j (omega arith) h ∙ get_or-drop 4 ws (4 * i + j) 0 ∙ ap (λ k. get_or ws k 0) (omega arith)

-- Four sums, each with a word of four more.
pub fours_more : (bytes ws d : List ℕ) (fours : List (List ℕ)) (a b c e i : ℕ) {v w x y : ℕ} → fours ≡ first_chunks 4 (length ws / 4) ws
    → i < length ws / 4 → a + b + c + e ≡ total (word_bright_at bytes ws) (4 * i)
    → v ≡ word_bright bytes (get_or (get_or fours i d) 0 0) → w ≡ word_bright bytes (get_or (get_or fours i d) 1 0)
    → x ≡ word_bright bytes (get_or (get_or fours i d) 2 0) → y ≡ word_bright bytes (get_or (get_or fours i d) 3 0)
    → a + v + (b + w) + (c + x) + (e + y) ≡ total (word_bright_at bytes ws) (4 * (i + 1))
fours_more bytes ws d fours a b c e i q l sum f g h k =
    let at : (j : ℕ) → j < 4 → word_bright bytes (get_or (get_or fours i d) j 0) ≡ word_bright_at bytes ws (4 * i + j) =
    λ j m. ap (λ fs. word_bright bytes (get_or (get_or fs i d) j 0)) q ∙ ap (word_bright bytes) (four_at (length ws / 4) ws d i j l m) in
    let none : 4 * i + 0 ≡ 4 * i = omega arith in
    let next : 4 * i + 4 ≡ 4 * (i + 1) = omega arith in
    let first : word_bright bytes (get_or (get_or fours i d) 0 0) ≡ word_bright_at bytes ws (4 * i) =
    at 0 (omega arith) ∙ ap (word_bright_at bytes ws) none in
    sums_more a b c e (word_bright_at bytes ws) (4 * i) sum (f ∙ first) (g ∙ at 1 (omega arith)) (h ∙ at 2 (omega arith)) (k ∙ at 3 (omega arith))
    ∙ ap (total (word_bright_at bytes ws)) next

-- A word's bytes, flagged one after another.
pub flagged_word : (flags : List ℕ) (w : ℕ) → length flags ≡ 256
    → Flagged flags (set (set (set (set flags (w % 256) 1) (w / 0x100 % 256) 1) (w / 0x1_0000 % 256) 1) (w / 0x100_0000 % 256) 1)
    (λ q. word_bright (only q) w)
flagged_word flags w e =
    let one : (l : List ℕ) → length l ≡ 256 → (x : ℕ) → Flagged l (set l (x % 256) 1) (λ q. get_or (only q) (x % 256) 0) =
    λ l h x. flagged_one l (x % 256) h (mod-lt x (omega arith)) in
    let a = one flags e w in
    let b = flagged_join a (one _ (a.len ∙ e) (w / 0x100)) in
    let c = flagged_join b (one _ (b.len ∙ e) (w / 0x1_0000)) in
    flagged_join c (one _ (c.len ∙ e) (w / 0x100_0000))

-- The bits of a mask below n, as times.
abbrev pub times_below : ℕ → ℕ → ℕ → ℕ
times_below mask n q = pick (ltb q n) (mask / 2 ^ q % 2) 0

-- Below 0 there are none; one more of them is set or clear.
pub bits_none : (mask : ℕ) (flags : List ℕ) → Flagged flags flags (times_below mask 0)
bits_none mask flags = flagged_none flags (times_below mask 0) (λ q l. rw (le-ltb q 0 (omega arith)))

times_more : (mask n q : ℕ) → q < 256 → times_below mask (n + 1) q ≡ times_below mask n q + mask / 2 ^ n % 2 * get_or (only q) n 0
times_more mask n q l = rw (only_at q n l) (by (eqb n q) refl)
  where
    same : (n ≡ q → ⊥) → ltb q (n + 1) ≡ ltb q n
    same h =
        elim (lt_or_le q n) [
          | inl m ↦ lt-ltb q (n + 1) (omega arith) ∙ sym (lt-ltb q n m)
          | inr m ↦ le-ltb q (n + 1) (omega arith) ∙ sym (le-ltb q n m)
        ]

    by : (t : Bool) → eqb n q ≡ t → times_below mask (n + 1) q ≡ times_below mask n q + mask / 2 ^ n % 2 * bit t
    by true e = rw (eqb-true n q e, lt-ltb q (q + 1) (omega arith), le-ltb q q (omega arith)) (omega arith)
    by false e = rw (same (eqb-false n q e)) (omega arith)

pub bit_set : {old flags : List ℕ} (mask n : ℕ) → length flags ≡ 256 → n < 256 → mask / 2 ^ n % 2 ≡ 1
    → Flagged old flags (times_below mask n) → Flagged old (set flags n 1) (times_below mask (n + 1))
bit_set {old} {flags} mask n e l b f =
    flagged_as
    (λ q h.
    let more : times_below mask n q + get_or (only q) n 0 ≡ times_below mask (n + 1) q = rw (times_more mask n q h, b) (omega arith) in
    ap (ltb 0) more)
    (flagged_join f (flagged_one flags n e l))

pub bit_clear : {old flags : List ℕ} (mask n : ℕ) → (mask / 2 ^ n % 2 ≡ 1 → ⊥) → Flagged old flags (times_below mask n)
    → Flagged old flags (times_below mask (n + 1))
bit_clear mask n b f =
    let clear : mask / 2 ^ n % 2 ≡ 0 = elim (lt_or_le (mask / 2 ^ n % 2) 1) [ inl l ↦ omega arith | inr l ↦ absurd (b (omega arith)) ] in
    flagged_as
    (λ q h.
    let more : times_below mask n q ≡ times_below mask (n + 1) q = rw (times_more mask n q h, clear) (omega arith) in
    ap (ltb 0) more)
    f

module _ (masks : List ℕ) (d : ℕ) (m : Masks masks d) where
  word_masked : (w : ℕ) → Masked (word_mask masks w) (λ q. word_bright (bytes_only d q) w)
  word_masked w =
      let one : (x : ℕ) → Masked (get_or masks (x % 256) 0) (λ q. get_or (bytes_only d q) (x % 256) 0) =
      λ x.
      let l : x % 256 < 256 = omega arith in
      masked_as (λ q h. sym ((bytes_only_holds d q).on (x % 256) l)) (m.on (x % 256) l) in
      masked_or (masked_or (masked_or (one w) (one (w / 0x100))) (one (w / 0x1_0000))) (one (w / 0x100_0000))

  words_masked : (ws : List ℕ) (n : ℕ) → Masked (words_mask masks ws n) (words_seen d ws n)
  unfolding words_mask words_seen total
  words_masked ws zero = masked_none
  words_masked ws (suc n) = masked_or (words_masked ws n) (word_masked (get_or ws n 0))

-- Sixteen and above is no pixel at depths up to 4.
byte_unseen : (d b q : ℕ) → d ≤ 4 → 16 ≤ q → q < 256 → byte_bright (only q) d b ≡ 0
unfolding byte_bright
byte_unseen d b q l h m =
    total_none (field_bright (only q) d b) (8 / d)
    (λ j i. only_at q (field b d j) m ∙ ap bit (ne_eqb (field b d j) q (λ e. omega (arith, bits_low (b / 2 ^ (j * d)) d l))))

words_unseen : (d : ℕ) (ws : List ℕ) (n q : ℕ) → d ≤ 4 → 16 ≤ q → q < 256 → words_seen d ws n q ≡ 0
unfolding words_seen
words_unseen d ws n q l h m =
    total_none (word_bright_at (bytes_only d q) ws) n
    (λ k i. word_as (bytes_only d q) [] (get_or ws k 0) (λ b j. (bytes_only_holds d q).on b j ∙ byte_unseen d b q l h m))

mask_tells : {mask : ℕ} {times : ℕ → ℕ} → Masked mask times → ((q : ℕ) → 16 ≤ q → q < 256 → times q ≡ 0)
    → (q : ℕ) → q < 256 → ltb 0 (mask_times mask q) ≡ ltb 0 (times q)
mask_tells {mask} {times} m none q h =
    elim (lt_or_le q 16) [
      | inl l ↦ rw (lt-ltb q 16 l, m.on q l) (bit_on (ltb 0 (times q)))
      | inr l ↦ rw (le-ltb q 16 l, none q l h)
    ]

-- The pixels of a mask's words, flagged.
pub masked_flagged : {mask : ℕ} {old new : List ℕ} (d : ℕ) (masks ws : List ℕ) (n : ℕ) → d ≤ 4 → Masks masks d
    → mask ≡ words_mask masks ws n → Flagged old new (mask_times mask) → Flagged old new (words_seen d ws n)
masked_flagged d masks ws n l m e f =
    flagged_as (mask_tells (rw e (words_masked masks d m ws n)) (λ q. words_unseen d ws n q l)) f

-- At depth 8 a byte is a pixel.
byte_eight : (q b : ℕ) → b < 256 → get_or (bytes_only 8 q) b 0 ≡ get_or (only q) b 0
unfolding byte_bright total
byte_eight q b l = (bytes_only_holds 8 q).on b l ∙ rw (zero-add, div-one, mod-eq_of_lt)

pub eight_flagged : {old new : List ℕ} (ws : List ℕ) (n : ℕ) → Flagged old new (λ q. total (word_bright_at (only q) ws) n)
    → Flagged old new (words_seen 8 ws n)
unfolding words_seen
eight_flagged ws n f =
    flagged_as
    (λ q l. ap (ltb 0)
    (total_as (word_bright_at (only q) ws) (word_bright_at (bytes_only 8 q) ws) n
    (λ k m. word_as (only q) (bytes_only 8 q) (get_or ws k 0) (λ b j. sym (byte_eight q b j)))))
    f
