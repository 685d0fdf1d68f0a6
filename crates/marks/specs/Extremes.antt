-- The least and the greatest of f k over each k below n, among the numbers from 0 to 255.
use Rattle.std.specs.Prelude.{ℕ, zero, suc, ltb}
use Rattle.buffers.specs.Pick.{pick}

abbrev pub smaller : ℕ → ℕ → ℕ
smaller a b = pick (ltb b a) b a

abbrev pub larger : ℕ → ℕ → ℕ
larger a b = pick (ltb a b) b a

-- 255 where there is none.
unfoldable pub least_of : (ℕ → ℕ) → ℕ → ℕ
least_of f zero = 255
least_of f (suc n) = smaller (least_of f n) (f n)

-- 0 where there is none.
unfoldable pub greatest_of : (ℕ → ℕ) → ℕ → ℕ
greatest_of f zero = 0
greatest_of f (suc n) = larger (greatest_of f n) (f n)
