-- Numbers in decimal: their digits as bytes, the highest first.
use Rattle.std.specs.Prelude.{ℕ, zero, suc, ◌+◌, ◌/◌, ◌%◌, ◌^◌, Bool, List, [], ◌∷◌, ltb}
use Rattle.registers.specs.Lowest.{lowest}

-- Whether k digits are enough for n.
abbrev pub fits_in : ℕ → ℕ → Bool
fits_in n k = ltb n (10 ^ k)

-- The fewest digits, one at least, that are enough; ten are for every number of 32 bits.
abbrev pub places : ℕ → ℕ
places n = lowest (fits_in n) 9 1

-- The digit at k places from the right, as a byte.
abbrev pub digit_of : ℕ → ℕ → ℕ
digit_of n k = 48 + n / 10 ^ k % 10

-- The lowest k digits of n, the highest of them first.
unfoldable pub digits : ℕ → ℕ → List ℕ
digits n zero = []
digits n (suc k) = digit_of n k ∷ digits n k

unfoldable pub decimal : ℕ → List ℕ
decimal n = digits n (places n)
