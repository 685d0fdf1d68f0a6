-- The table of bytes, as the painters make it ready. No public promise reaches this.
use Rattle.std.specs.Prelude.{ℕ, ◌+◌, ◌*◌, ◌/◌, ◌%◌, ◌^◌, ◌<◌, List, ◌≡◌, get_or}
use Rattle.registers.specs.declared.record.Registers.{Registers}
use Rattle.frame.specs.inner.Ink.{shade}

-- A table holds, of each byte, the cells of all its pixels.
pub record Bytes (g : Registers) (d : ℕ) (table : List ℕ) : Type 0 where
  pub cell : (b j : ℕ) → b < 256 → j < 8 / d → get_or table (b * (8 / d) + j) 0 ≡ shade g d (b / 2 ^ (j * d) % 2 ^ d)
