-- Stores one after another: a loop that stores a list's elements in order has, at each turn, the whole left to store.
use mathlib.Core.Path.{◌≡◌, refl, sym, ◌∙◌, ap}
use mathlib.Core.List.{List, [], ◌∷◌, ◌++◌, append_assoc}
use Prim.Native.Nat.{ℕ, suc, ◌+◌, ◌-◌, ◌≤◌, ◌<◌}
use native.Mathlib.Numerals.{add-one}
use native.Mathlib.Nat.{add-zero, add-suc, suc-add}
use native.Mathlib.Omega.{arith}
use lib.ListN.{length, get_or, set, drop, drop_of_length-le, get_or-append}
use lib.Seq.{sets, set_out, drop-cons, drop-drop, sets-eq, get_or-append-add, get_or-drop}
use borrow.Rule.Slice.PartMut.{put_mid}

module _ {A : Type 0} where
  pub sets_append : (l : List A) (i : ℕ) (xs ys : List A) → sets l i (xs ++ ys) ≡ sets (sets l i xs) (i + length xs) ys
  sets_append l i [] ys = rw add-zero
  sets_append l i (x ∷ xs) ys =
      sets_append (set l i x) (suc i) xs ys
      ∙ ap (λ (n : ℕ). sets (sets (set l i x) (suc i) xs) n ys) (suc-add i (length xs) ∙ sym (add-suc i (length xs)))

  -- one element stored, of a list that is stored from its start on
  pub sets_turn :
      (l vs : List A) (k : ℕ) (d : A) → k < length vs
      → sets l k (drop k vs) ≡ sets (set l k (get_or vs k d)) (k + 1) (drop (k + 1) vs)
  sets_turn l vs k d h = rw (add-one, drop-cons vs k d)

  pub sets_done : (l vs : List A) (k i : ℕ) → length vs ≤ k → sets l i (drop k vs) ≡ l
  sets_done l vs k i h = rw (drop_of_length-le vs h)

  -- places past the end are passed over
  pub sets_past : (l vs : List A) (i : ℕ) → length l ≤ i → sets l i vs ≡ l
  sets_past l [] i h = refl
  sets_past l (v ∷ vs) i h = rw (set_out l i v h) (sets_past l vs (suc i) (omega arith))

  -- four stores in a row
  pub sets_four :
      (l : List A) (at : ℕ) (a b c d : A)
      → set (set (set (set l at a) (at + 1) b) (at + 2) c) (at + 3) d ≡ sets l at (a ∷ b ∷ c ∷ d ∷ [])
  sets_four l at a b c d =
      let p : at + 1 ≡ suc at = omega arith in
      let q : at + 2 ≡ suc (suc at) = omega arith in
      let r : at + 3 ≡ suc (suc (suc at)) = omega arith in
      rw (p, q, r)

  -- a range written over
  pub sets_range :
      (l vs : List A) {ys : List A} (at n : ℕ) → at + length vs ≤ length l → n ≡ length vs → ys ≡ vs → put_mid at n l ys ≡ sets l at vs
  sets_range l vs at n h e f = rw (f, e, drop-drop (length vs) at l, sets-eq vs l at h, append_assoc)

  -- what stands at each place after a list was stored at the start, and that the rest is as it was
  pub sets_at : (l vs : List A) (i : ℕ) (d : A) → length vs ≤ length l → i < length vs → get_or (sets l 0 vs) i d ≡ get_or vs i d
  sets_at l vs i d fits h = rw (sets-eq vs l 0 (omega arith)) (get_or-append vs (drop (0 + length vs) l) d i h)

  pub sets_beyond : (l vs : List A) (i : ℕ) (d : A) → length vs ≤ length l → length vs ≤ i → get_or (sets l 0 vs) i d ≡ get_or l i d
  sets_beyond l vs i d fits h =
      let n : i ≡ length vs + (i - length vs) = omega arith in
      let m : 0 + length vs + (i - length vs) ≡ i = omega arith in
      rw (sets-eq vs l 0 (omega arith))
      (ap (λ (k : ℕ). get_or (vs ++ drop (0 + length vs) l) k d) n
      ∙ get_or-append-add vs (drop (0 + length vs) l) (i - length vs) d
      ∙ get_or-drop (0 + length vs) l (i - length vs) d
      ∙ ap (λ (k : ℕ). get_or l k d) m)
