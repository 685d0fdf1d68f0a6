-- The table of quads, by which depth 8 is painted, as the painters make it ready. No public promise reaches this.
use Rattle.std.specs.Prelude.{ℕ, ◌+◌, ◌*◌, ◌^◌, ◌<◌, List, ◌≡◌, get_or}
use Rattle.frame.specs.inner.Ink.{word_ink, quad_cell}

-- A table of quads: each byte's cell, of 16 bits, at its four places.
pub record Joined (quads : List ℕ) : Type 0 where
  pub small : (b : ℕ) → b < 256 → get_or quads b 0 < 65536
  pub moved : (j b : ℕ) → j < 4 → b < 256 → get_or quads (256 * j + b) 0 ≡ get_or quads b 0 * 2 ^ (16 * j)

-- Cells of 16 bits, and the table of quads made of them.
pub record Cells (table : List ℕ) : Type 0 where
  pub small : (b : ℕ) → b < 256 → get_or table b 0 < 65536

pub record Quads (table quads : List ℕ) : Type 0 where
  pub joined : Joined quads
  pub same : (b : ℕ) → b < 256 → get_or quads b 0 ≡ get_or table b 0

-- Depth 8 alone needs it.
pub record Tables (d : ℕ) (table quads : List ℕ) : Type 0 where
  pub eight : d ≡ 8 → Quads table quads

-- Four cells added: those of a word's bytes.
pub record Four (quads : List ℕ) (w x : ℕ) : Type 0 where
  pub cell : (j : ℕ) → j < 4 → quad_cell x j ≡ word_ink quads w 1 j
