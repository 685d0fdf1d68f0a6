-- The bits of a number, as a data sheet counts them.
use Rattle.std.specs.Prelude.{ℕ, zero, suc, ◌-◌, ◌/◌, ◌%◌, ◌^◌}

-- Bits high to low of a number, the lowest of all being bit 0.
abbrev pub bits : ℕ → ℕ → ℕ → ℕ
bits high zero n = n % 2 ^ suc high
bits high (suc low) n = n / 2 ^ suc low % 2 ^ (high - low)
