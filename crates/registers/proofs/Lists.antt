-- Laws of a list walked word by word: what is left of it from word i on.
use Prim.Native.Nat.{ℕ, suc, ◌+◌, ◌<◌}
use mathlib.Core.Path.{◌≡◌, refl}
use mathlib.Core.Bool.{Bool, true, false, cond}
use native.Mathlib.Omega.{arith}
use Rattle.std.specs.List.{position_or_len}
use Rattle.std.proofs.lemmas.List.Recursion.{is_position_or_len}
use Rattle.buffers.specs.Pick.{pick}
use mathlib.Core.List.{List}
use native.Mathlib.Numerals.{add-one}
use lib.ListN.{length, get_or, drop}
use lib.Seq.{drop-cons, drop-length}
use Rattle.registers.specs.Record.{slot_of, reserved, stored_of}
use Rattle.registers.specs.Load.{leading, applied}
use Rattle.registers.specs.declared.record.Registers.{Registers}

-- how many words lead the first reserved one is its place, or the length
pub leading_position : (ws : List ℕ) → leading ws ≡ position_or_len (λ w. reserved (slot_of w)) ws
unfolding leading
leading_position ws = is_position_or_len leading (λ w. reserved (slot_of w)) refl (λ w ws. go (reserved (slot_of w)) (leading ws)) ws
  where
    go : (t : Bool) (n : ℕ) → pick t 0 (suc n) ≡ cond t 0 (1 + n)
    go true n = refl
    go false n = omega arith

module _ (ws : List ℕ) (i : ℕ) where
  pub applied_more : (g : Registers) → i < length ws → applied g (drop i ws) ≡ applied (stored_of g (get_or ws i 0)) (drop (i + 1) ws)
  unfolding applied
  applied_more g h = rw (add-one, drop-cons ws i 0)

  pub applied_all : (g : Registers) → i ≡ length ws → applied g (drop i ws) ≡ g
  unfolding applied
  applied_all g e = rw (e, drop-length)
