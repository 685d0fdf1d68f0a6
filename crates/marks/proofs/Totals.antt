-- Laws of sums: term by term, in parts, in rows, and within a window outside of which nothing counts.
use Prim.Native.Nat.{ℕ, zero, suc, ◌+◌, ◌-◌, ◌*◌, ◌<◌, ◌≤◌}
use mathlib.Core.Path.{◌≡◌, refl, ap, ◌∙◌}
use native.Mathlib.Nat.{add_assoc, zero-add, add-zero, add-suc, suc-mul, zero-mul}
use native.Mathlib.Numerals.{add-one}
use native.Mathlib.Omega.{arith}
use Rattle.marks.specs.Count.{total}

pub total_more : (f : ℕ → ℕ) (n : ℕ) → total f (n + 1) ≡ total f n + f n
unfolding total
total_more f n = rw add-one

-- A loop's sum, one term further.
pub sum_more : {sum v : ℕ} (f : ℕ → ℕ) (n : ℕ) → sum ≡ total f n → v ≡ f n → sum + v ≡ total f (n + 1)
sum_more f n e h = rw (total_more f n, e, h)

pub total_as : (f h : ℕ → ℕ) (n : ℕ) → ((k : ℕ) → k < n → f k ≡ h k) → total f n ≡ total h n
unfolding total
total_as f h zero e = refl
total_as f h (suc n) e = rw (total_as f h n (λ k l. e k (omega arith)), e n (omega arith))

pub total_none : (f : ℕ → ℕ) (n : ℕ) → ((k : ℕ) → k < n → f k ≡ 0) → total f n ≡ 0
unfolding total
total_none f zero e = refl
total_none f (suc n) e = rw (total_none f n (λ k l. e k (omega arith)), e n (omega arith))

pub total_add : (f h : ℕ → ℕ) (n : ℕ) → total (λ k. f k + h k) n ≡ total f n + total h n
unfolding total
total_add f h zero = refl
total_add f h (suc n) = omega (arith, total_add f h n)

-- The first a terms, and the next b.
pub total_split : (f : ℕ → ℕ) (a b : ℕ) → total f (a + b) ≡ total f a + total (λ k. f (a + k)) b
unfolding total
total_split f a zero = rw (add-zero, add-zero)
total_split f a (suc b) = rw (add-suc, total_split f a b, add_assoc)

-- A sum up to a, and the rest of it.
pub parts_total : {sum rest : ℕ} (f : ℕ → ℕ) (a n : ℕ) → a ≤ n → sum ≡ total f a → rest ≡ total (λ k. f (a + k)) (n - a) → sum + rest ≡ total f n
parts_total f a n l e h = rw (e, h, ← total_split f a (n - a)) (ap (total f) (omega arith))

-- Four sums, each with an element more.
pub sums_more : (a b c d : ℕ) {v w x y : ℕ} (f : ℕ → ℕ) (n : ℕ) → a + b + c + d ≡ total f n
    → v ≡ f n → w ≡ f (n + 1) → x ≡ f (n + 2) → y ≡ f (n + 3) → a + v + (b + w) + (c + x) + (d + y) ≡ total f (n + 4)
unfolding total
sums_more a b c d f n e h i j k =
    let four : total f (n + 4) ≡ total f n + (f n + f (n + 1) + f (n + 2) + f (n + 3)) = total_split f n 4 ∙ rw (zero-add, add-zero) in
    omega (arith, e, h, i, j, k, four)

-- v rows of n terms.
pub total_rows : (f : ℕ → ℕ) (v n : ℕ) → total f (v * n) ≡ total (λ y. total (λ x. f (y * n + x)) n) v
unfolding total
total_rows f zero n = rw zero-mul
total_rows f (suc v) n = rw (suc-mul, total_split f (v * n) n, total_rows f v n)

pub total_most : (f : ℕ → ℕ) (m n : ℕ) → ((k : ℕ) → k < n → f k ≤ m) → total f n ≤ n * m
unfolding total
total_most f m zero e = omega arith
total_most f m (suc n) e = rw suc-mul (omega (arith, total_most f m n (λ k l. e k (omega arith)), e n (omega arith)))

-- Nothing counts outside the c terms from a on.
pub record Within (f : ℕ → ℕ) (a c : ℕ) : Type 0 where
  pub low : (k : ℕ) → k < a → f k ≡ 0
  pub high : (k : ℕ) → a + c ≤ k → f k ≡ 0

total_past : (f : ℕ → ℕ) (a b : ℕ) → ((k : ℕ) → a ≤ k → f k ≡ 0) → total f (a + b) ≡ total f a
total_past f a b e =
    omega (arith, total_split f a b, total_none (λ k. f (a + k)) b (λ k l. e (a + k) (omega arith)))

pub total_window : (f : ℕ → ℕ) (a c n : ℕ) → Within f a c → ((k : ℕ) → n ≤ k → f k ≡ 0) → total f n ≡ total (λ k. f (a + k)) c
total_window f a c n w e =
    let back : total f (a + c + n) ≡ total f (n + (a + c)) = ap (total f) (omega arith) in
    omega (arith, back, total_past f n (a + c) e, total_past f (a + c) n w.high, total_split f a c, total_none f a w.low)
