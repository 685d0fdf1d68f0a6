-- A right file, its words cut at its own section starts: their plate is the file.
use mathlib.Core.Path.{◌≡◌, sym, ◌∙◌, ap}
use mathlib.Core.Bool.{true}
use mathlib.Core.List.{List, [], ◌∷◌, ◌++◌}
use Prim.Native.Nat.{ℕ, ◌+◌, ◌*◌, ◌-◌, ◌≤◌}
use native.Mathlib.Omega.{arith}
use lib.ListN.{length, take, drop, length-drop, take-append-drop}
use lib.Seq.{sets, length-sets, drop-length, sets-eq, slice, length-slice, length-take-le, take-take, take-append-le, take_all, drop-append-le}
use Rattle.buffers.specs.Words.{words_of, bytes_of, Below}
use Rattle.buffers.proofs.Words.{below_take, below_drop, bytes_append, bytes_back, length_words, words_cons}
use Rattle.plates.specs.Plate.{right, r_of, v_of, c_of, s_of, plate_of}
use Rattle.plates.specs.Read.{copied}
use Rattle.plates.proofs.Rule.{Ordered}
use Rattle.plates.proofs.Calls.{right_ordered}

-- two parts of a list that meet
slice_append : (a b c : ℕ) (l : List ℕ) → a ≤ b → b ≤ c → c ≤ length l → slice a b l ++ slice b c l ≡ slice a c l
slice_append a b c l p q h =
    let t : take c l ≡ take b l ++ drop b (take c l) =
    sym (take-append-drop b (take c l)) ∙ ap (λ (x : List ℕ). x ++ drop b (take c l)) (take-take b c l q) in
    sym (drop-append-le a (take b l) (drop b (take c l)) (omega (arith, length-take-le b l (omega arith)))) ∙ ap (drop a) (sym t)

-- a part of what was stored at the start of a list
slice_sets : (l vs : List ℕ) (a b : ℕ) → b ≤ length vs → length vs ≤ length l → slice a b (sets l 0 vs) ≡ slice a b vs
slice_sets l vs a b h k =
    rw (sets-eq vs l 0 (omega arith)) (ap (drop a) (take-append-le b vs (drop (0 + length vs) l) h))

-- the bytes' two halves
halves :
    (file : List ℕ) (k n : ℕ) → length file ≡ 4 * (k + n) → Below 256 file
    → bytes_of (words_of (take (4 * k) file) ++ words_of (drop (4 * k) file)) ≡ file
halves file k n e h =
    bytes_append (words_of (take (4 * k) file)) (words_of (drop (4 * k) file))
    ∙ rw (
      bytes_back k (take (4 * k) file) (length-take-le (4 * k) file (omega arith)) (below_take 256 (4 * k) file (omega arith) h),
      bytes_back n (drop (4 * k) file) (length-drop (4 * k) file ∙ (omega arith)) (below_drop 256 (4 * k) file h),
    ) (take-append-drop (4 * k) file)

module _ (file : List ℕ) (h : right file ≡ true) (small : Below 256 file) where
  o : Ordered (length file) (r_of file) (v_of file) (c_of file) (s_of file)
  o = right_ordered file h

  length_copied : length (copied file) ≡ r_of file
  length_copied = omega (arith, length_words (take (4 * r_of file) file), length-take-le (4 * r_of file) file (omega (arith, o.whole)), o.whole)

  trailer_is : words_of (drop (4 * r_of file) file) ≡ r_of file ∷ v_of file ∷ c_of file ∷ s_of file ∷ []
  unfolding words_of
  trailer_is =
      let w = o.whole in
      let e0 : 4 * r_of file ≡ length file - 16 = omega (arith, w) in
      let e1 : length file - 16 + 4 ≡ length file - 12 = omega (arith, w) in
      let e2 : length file - 12 + 4 ≡ length file - 8 = omega (arith, w) in
      let e3 : length file - 8 + 4 ≡ length file - 4 = omega (arith, w) in
      let e4 : length file - 4 + 4 ≡ length file = omega (arith, w) in
      ap (λ (n : ℕ). words_of (drop n file)) e0
      ∙ words_cons file (length file - 16) (omega (arith, w))
      ∙ ap (λ (n : ℕ). r_of file ∷ words_of (drop n file)) e1
      ∙ ap (λ (l : List ℕ). r_of file ∷ l) (words_cons file (length file - 12) (omega (arith, w)))
      ∙ ap (λ (n : ℕ). r_of file ∷ v_of file ∷ words_of (drop n file)) e2
      ∙ ap (λ (l : List ℕ). r_of file ∷ v_of file ∷ l) (words_cons file (length file - 8) (omega (arith, w)))
      ∙ ap (λ (n : ℕ). r_of file ∷ v_of file ∷ c_of file ∷ words_of (drop n file)) e3
      ∙ ap (λ (l : List ℕ). r_of file ∷ v_of file ∷ c_of file ∷ l) (words_cons file (length file - 4) (omega (arith, w)))
      ∙ ap (λ (n : ℕ). r_of file ∷ v_of file ∷ c_of file ∷ s_of file ∷ words_of (drop n file)) e4
      ∙ ap (λ (l : List ℕ). r_of file ∷ v_of file ∷ c_of file ∷ s_of file ∷ words_of l) (drop-length file)

  -- the words stood in a longer list, and were cut there
  pub cut_plate :
      (m rs vs cs ss : List ℕ) → r_of file ≤ length m
      → rs ≡ slice 0 (r_of file - v_of file) (sets m 0 (copied file))
      → vs ≡ slice (r_of file - v_of file) (r_of file - c_of file) (sets m 0 (copied file))
      → cs ≡ slice (r_of file - c_of file) (r_of file - s_of file) (sets m 0 (copied file))
      → ss ≡ slice (r_of file - s_of file) (r_of file) (sets m 0 (copied file))
      → plate_of rs vs cs ss ≡ file
  unfolding plate_of
  cut_plate m rs vs cs ss room er ev ec es =
      let w = sets m 0 (copied file) in
      let r = r_of file in
      let v = r_of file - v_of file in
      let c = r_of file - c_of file in
      let s = r_of file - s_of file in
      let vr = o.v_r in
      let cv = o.c_v in
      let sc = o.s_c in
      let lw : r ≤ length w = omega (arith, length-sets m 0 (copied file)) in
      let a : slice 0 v w ++ slice v c w ++ slice c s w ++ slice s r w ≡ copied file =
      rw (
        slice_append 0 v c w (omega arith) (omega arith) (omega arith),
        slice_append 0 c s w (omega arith) (omega arith) (omega arith),
        slice_append 0 s r w (omega arith) (omega arith) (omega arith),
        slice_sets m (copied file) 0 r (omega (arith, length_copied)) (omega (arith, length_copied)),
      )
      (take_all r (copied file) (omega (arith, length_copied))) in
      let lr : length rs ≡ v = ap length er ∙ length-slice 0 v w (omega arith) ∙ (omega arith) in
      let lv : length vs ≡ v_of file - c_of file = ap length ev ∙ length-slice v c w (omega arith) ∙ (omega arith) in
      let lc : length cs ≡ c_of file - s_of file = ap length ec ∙ length-slice c s w (omega arith) ∙ (omega arith) in
      let ls : length ss ≡ s_of file = ap length es ∙ length-slice s r w (omega arith) ∙ (omega arith) in
      let t0 : length rs + (length vs + (length cs + length ss)) ≡ r_of file = omega arith in
      let t1 : length vs + (length cs + length ss) ≡ v_of file = omega arith in
      let t2 : length cs + length ss ≡ c_of file = omega arith in
      rw (t0, t1, t2, ls, er, ev, ec, es, a, ← trailer_is) (halves file r 4 (omega (arith, o.whole)) small)
