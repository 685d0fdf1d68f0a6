-- Sums and counts over the numbers below one.
use Rattle.std.specs.Prelude.{ℕ, zero, suc, ◌+◌, Bool}
use Rattle.buffers.specs.Pick.{pick}

-- The sum of f k over each k below n.
unfoldable pub total : (ℕ → ℕ) → ℕ → ℕ
total f zero = 0
total f (suc n) = total f n + f n

-- 1 where a test holds, else 0.
abbrev pub bit : Bool → ℕ
bit test = pick test 1 0

-- How many numbers below n pass a test.
abbrev pub count_below : (ℕ → Bool) → ℕ → ℕ
count_below test n = total (λ k. bit (test k)) n
