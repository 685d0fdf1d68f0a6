-- The least and the greatest of some numbers: one number further; and two rows of numbers that have the same ones have the same least and
-- the same greatest.
use Prim.Native.Nat.{ℕ, zero, suc, ◌+◌, ◌^◌, ◌<◌, ◌≤◌, min, max}
use mathlib.Core.Bool.{Bool, true, false}
use mathlib.Core.Logic.{◌⊎◌, inl, inr}
use mathlib.Core.List.{List}
use mathlib.Core.Path.{◌≡◌, refl}
use native.Mathlib.Numerals.{add-one}
use native.Mathlib.Omega.{arith}
use borrow.Author.Tests.{ltb-true, ltb-false, eq-eqb, ne_eqb}
use lib.Dec.{ltb, eqb}
use lib.ListN.{get_or}
use Rattle.buffers.specs.Pick.{pick}
use Rattle.buffers.proofs.Split.{lt_or_le}
use Rattle.registers.specs.inner.Accepted.{Depth}
use Rattle.marks.specs.Extremes.{smaller, larger, least_of, greatest_of}
use Rattle.marks.specs.inner.Seen.{pixels_for, flagged_grey}

-- A choice between two numbers lies where both do.
picked : (P : ℕ → Type 0) (t : Bool) (a b : ℕ) → P a → P b → P (pick t a b)
picked P true a b p q = p
picked P false a b p q = q

-- All pixels of a depth are among those that are looked through, which are at most 256.
pub pixels_enough : {d : ℕ} → Depth d → 2 ^ d ≤ pixels_for d
pixels_enough (inl e) = rw e (omega arith)
pixels_enough (inr (inl e)) = rw e (omega arith)
pixels_enough (inr (inr (inl e))) = rw e (omega arith)
pixels_enough (inr (inr (inr e))) = rw e (omega arith)

pub pixels_most : (d : ℕ) → pixels_for d ≤ 256
pixels_most d =
    picked (λ n. n ≤ 256) (eqb d 8) 256 (pick (eqb d 4) 16 4) (omega arith) (picked (λ n. n ≤ 256) (eqb d 4) 16 4 (omega arith) (omega arith))

-- One number more, by the library's own least and greatest.
pub least_more : {v w : ℕ} (f : ℕ → ℕ) (n : ℕ) → v ≡ least_of f n → w ≡ f n → min v w ≡ least_of f (n + 1)
unfolding least_of
least_more {v} {w} f n e h = rw (add-one, ← e, ← h) (by (ltb w v) refl)
  where
    by : (t : Bool) → ltb w v ≡ t → min v w ≡ pick t w v
    by true l = omega (arith, ltb-true w v l)
    by false l = omega (arith, ltb-false w v l)

pub greatest_more : {v w : ℕ} (f : ℕ → ℕ) (n : ℕ) → v ≡ greatest_of f n → w ≡ f n → max v w ≡ greatest_of f (n + 1)
unfolding greatest_of
greatest_more {v} {w} f n e h = rw (add-one, ← e, ← h) (by (ltb v w) refl)
  where
    by : (t : Bool) → ltb v w ≡ t → max v w ≡ pick t w v
    by true l = omega (arith, ltb-true v w l)
    by false l = omega (arith, ltb-false v w l)

-- The grey of pixel q, by its flag.
module _ (greys flags : List ℕ) (none q : ℕ) where
  pub flag_clear : get_or flags q 0 ≡ 0 → none ≡ flagged_grey greys flags none q
  flag_clear e = rw (eq-eqb (get_or flags q 0) 0 e)

  pub flag_set : (get_or flags q 0 ≡ 0 → ⊥) → get_or greys q 0 ≡ flagged_grey greys flags none q
  flag_set n = rw (ne_eqb (get_or flags q 0) 0 n)

smaller_left : (a b : ℕ) → smaller a b ≤ a
smaller_left a b = by (ltb b a) refl
  where
    by : (t : Bool) → ltb b a ≡ t → pick t b a ≤ a
    by true e = omega (arith, ltb-true b a e)
    by false e = omega arith

smaller_right : (a b : ℕ) → smaller a b ≤ b
smaller_right a b = by (ltb b a) refl
  where
    by : (t : Bool) → ltb b a ≡ t → pick t b a ≤ b
    by true e = omega arith
    by false e = omega (arith, ltb-false b a e)

larger_left : (a b : ℕ) → a ≤ larger a b
larger_left a b = by (ltb a b) refl
  where
    by : (t : Bool) → ltb a b ≡ t → a ≤ pick t b a
    by true e = omega (arith, ltb-true a b e)
    by false e = omega arith

larger_right : (a b : ℕ) → b ≤ larger a b
larger_right a b = by (ltb a b) refl
  where
    by : (t : Bool) → ltb a b ≡ t → b ≤ pick t b a
    by true e = omega arith
    by false e = omega (arith, ltb-false a b e)

-- The least is not above any of them, and 255; the greatest is not below any of them.
least_below : (f : ℕ → ℕ) (n k : ℕ) → k < n → least_of f n ≤ f k
unfolding least_of
least_below f zero k l = absurd (omega arith)
least_below f (suc n) k l =
    elim (lt_or_le k n) [
      | inl h ↦ omega (arith, least_below f n k h, smaller_left (least_of f n) (f n))
      | inr h ↦ let e : k ≡ n = omega arith in rw e (smaller_right (least_of f n) (f n))
    ]

pub least_most : (f : ℕ → ℕ) (n : ℕ) → least_of f n ≤ 255
unfolding least_of
least_most f zero = omega arith
least_most f (suc n) = omega (arith, least_most f n, smaller_left (least_of f n) (f n))

greatest_above : (f : ℕ → ℕ) (n k : ℕ) → k < n → f k ≤ greatest_of f n
unfolding greatest_of
greatest_above f zero k l = absurd (omega arith)
greatest_above f (suc n) k l =
    elim (lt_or_le k n) [
      | inl h ↦ omega (arith, greatest_above f n k h, larger_left (greatest_of f n) (f n))
      | inr h ↦ let e : k ≡ n = omega arith in rw e (larger_right (greatest_of f n) (f n))
    ]

-- What is not above any of them, nor 255, is not above the least; and the other way round.
least_over : (f : ℕ → ℕ) (n v : ℕ) → v ≤ 255 → ((k : ℕ) → k < n → v ≤ f k) → v ≤ least_of f n
unfolding least_of
least_over f zero v l h = l
least_over f (suc n) v l h =
    picked (λ x. v ≤ x) (ltb (f n) (least_of f n)) (f n) (least_of f n) (h n (omega arith)) (least_over f n v l (λ k m. h k (omega arith)))

greatest_under : (f : ℕ → ℕ) (n v : ℕ) → ((k : ℕ) → k < n → f k ≤ v) → greatest_of f n ≤ v
unfolding greatest_of
greatest_under f zero v h = omega arith
greatest_under f (suc n) v h =
    picked (λ x. x ≤ v) (ltb (greatest_of f n) (f n)) (f n) (greatest_of f n) (h n (omega arith)) (greatest_under f n v (λ k m. h k (omega arith)))

-- Number k of one row is among the first m of another, whatever stands for none.
pub record Among (f h : ℕ → ℕ → ℕ) (m k : ℕ) : Type 0 where
  pub at : ℕ
  pub low : at < m
  pub same : (none : ℕ) → f none k ≡ h none at

-- Each of the first n numbers of one row is none, or among the first m of another.
abbrev pub AllAmong : (ℕ → ℕ → ℕ) → ℕ → (ℕ → ℕ → ℕ) → ℕ → Type 0
AllAmong f n h m = (k : ℕ) → k < n → ((none : ℕ) → f none k ≡ none) ⊎ Among f h m k

module _ (f h : ℕ → ℕ → ℕ) (n m : ℕ) where
  least_le : AllAmong f n h m → least_of (h 255) m ≤ least_of (f 255) n
  least_le a =
      least_over (f 255) n (least_of (h 255) m) (least_most (h 255) m)
      (λ k l. elim (a k l) [
        | inl e ↦ rw (e 255) (least_most (h 255) m)
        | inr w ↦ rw (w.same 255) (least_below (h 255) m w.at w.low)
      ])

  greatest_le : AllAmong f n h m → greatest_of (f 0) n ≤ greatest_of (h 0) m
  greatest_le a =
      greatest_under (f 0) n (greatest_of (h 0) m)
      (λ k l. elim (a k l) [
        | inl e ↦ rw (e 0) (omega arith)
        | inr w ↦ rw (w.same 0) (greatest_above (h 0) m w.at w.low)
      ])

pub least_same : (f h : ℕ → ℕ → ℕ) (n m : ℕ) → AllAmong f n h m → AllAmong h m f n → least_of (f 255) n ≡ least_of (h 255) m
least_same f h n m a b = omega (arith, least_le f h n m a, least_le h f m n b)

pub greatest_same : (f h : ℕ → ℕ → ℕ) (n m : ℕ) → AllAmong f n h m → AllAmong h m f n → greatest_of (f 0) n ≡ greatest_of (h 0) m
greatest_same f h n m a b = omega (arith, greatest_le f h n m a, greatest_le h f m n b)
