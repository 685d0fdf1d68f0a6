-- Bytes stored in lent memory, and what a call answers of them.
use Rattle.std.specs.Prelude.{ℕ, ◌+◌, ◌≤◌, ◌≡◌, List, [], ltb, length}
use Rattle.std.proofs.lemmas.List.Edits.{sets}
use Rattle.buffers.specs.Pick.{pick}

-- A text in memory of some room: none where not all of it fits.
unfoldable pub text_in : ℕ → List ℕ → List ℕ
text_in room text = pick (ltb room (length text)) [] text

-- A text stored from a place on, and the place after it, all within the memory.
pub record Put (old new : List ℕ) (at : ℕ) (text : List ℕ) (r : ℕ) : Type 0 where
  pub stored : new ≡ sets old at text
  pub after : r ≡ at + length text
  pub inside : r ≤ length old
