-- Bytes judged one after another: those that were and those that are left make the whole. Then right bytes read, and wrong ones.
use Prim.Native.Nat.{ℕ, ◌/◌, ◌%◌, ◌≤◌}
use mathlib.Core.Bool.{Bool, true, false, ◌&&◌}
use mathlib.Core.List.{List, [], ◌∷◌}
use mathlib.Core.Path.{◌≡◌, sym, ◌∙◌}
use borrow.Author.Tests.{leb-true}
use lib.Dec.{leb, eqb}
use lib.ListN.{length}
use Rattle.std.proofs.Common.{fold}
use Rattle.std.proofs.Math.Bool.{and_assoc, and-true}
use Rattle.buffers.specs.Painted.{painted}
use Rattle.buffers.proofs.Tests.{and_split}
use Rattle.pictures.specs.Each.{each}
use Rattle.pictures.specs.Read.{is_gun, colour_read_at, read_right, read_leaves}

-- each byte's answer added to those before it
pub guns_folded : (all : Bool) (bytes : List ℕ) → fold (λ a byte. a && is_gun byte) all bytes ≡ all && each is_gun bytes
unfolding each
guns_folded all [] = sym (and-true all)
guns_folded all (b ∷ bs) = guns_folded (all && is_gun b) bs ∙ and_assoc all (is_gun b) (each is_gun bs)

module _ (bytes : List ℕ) where
  -- Right bytes are of no more colours than there is room for.
  pub right_room : (room : ℕ) → read_right bytes room ≡ true → length bytes / 3 ≤ room
  right_room room right = leb-true _ _ (and_split (each is_gun bytes && eqb (length bytes % 3) 0) (leb (length bytes / 3) room) right).1

  pub right_read : (o p : List ℕ) → read_right bytes (length o) ≡ true → p ≡ painted o 0 (length bytes / 3) (colour_read_at bytes)
      → (true ≡ read_right bytes (length o)) × (p ≡ read_leaves bytes o)
  right_read o p right read = (sym right, rw right read)

  pub wrong_left : (o : List ℕ) → read_right bytes (length o) ≡ false → (false ≡ read_right bytes (length o)) × (o ≡ read_leaves bytes o)
  wrong_left o wrong = (sym wrong, rw wrong)
