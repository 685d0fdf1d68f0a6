-- The samples of a WAV file: 16 bits each, lowest byte first, a negative value as its two's complement.
use Rattle.std.specs.Prelude.{ℕ, ◌-◌, ◌/◌, ◌%◌, List, [], ◌∷◌, ℤ, pos, negsuc}

-- `negsuc n` is -(n+1).
abbrev pub sample_of : ℤ → ℕ
sample_of (pos n) = n
sample_of (negsuc n) = 65535 - n

unfoldable pub samples_of : List ℤ → List ℕ
samples_of [] = []
samples_of (value ∷ values) = sample_of value % 256 ∷ sample_of value / 256 ∷ samples_of values
