-- A product of two numbers is below the product of their bounds.
use Prim.Native.Nat.{ℕ, ◌*◌, ◌<◌}
use native.Mathlib.Nat.{le_of_lt, lt_of_le_of_lt, mul-le-mul_left, mul-lt-mul_of_pos_right}
use native.Mathlib.Omega.{arith}

pub product_below : (a b : ℕ) {m n : ℕ} → a < m → b < n → a * b < m * n
product_below a b {m} {n} ha hb = lt_of_le_of_lt (mul-le-mul_left a (le_of_lt hb)) (mul-lt-mul_of_pos_right ha (omega arith))
