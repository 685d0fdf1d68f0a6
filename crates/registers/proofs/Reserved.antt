-- The reserved addresses lie in three gaps: computed at each of the 64 slots, and beyond them no register has an address.
use Prim.Native.Nat.{ℕ, ◌*◌, ◌<◌, ◌≤◌}
use mathlib.Core.Path.{◌≡◌, refl, ◌∙◌}
use mathlib.Core.Bool.{Bool, true, false, ◌&&◌, ◌||◌, not}
use mathlib.Core.List.{List, [], ◌∷◌}
use native.Mathlib.Omega.{arith}
use lib.Dec.{T, ltb}
use lib.ListN.{replicate}
use borrow.Author.Tests.{ltb-true, ltb-false, lt-ltb, ne_eqb}
use Rattle.buffers.proofs.Table.{at}
use Rattle.buffers.proofs.Tests.{and_split, or_right, or_neither}
use Rattle.registers.specs.Addresses.{addresses}
use Rattle.registers.specs.Record.{one_of, reserved, in_gap, reserved_below}

same : Bool → Bool → Bool
same true b = b
same false b = not b

same_is : (a b : Bool) → T (same a b) → a ≡ b
unfolding same
same_is true true t = refl
same_is true false t = absurd t
same_is false true t = absurd t
same_is false false t = refl

at_slot : ℕ → ℕ → Bool
at_slot slot x = same (in_gap slot) (reserved slot)

within : (slot : ℕ) → slot < 64 → in_gap slot ≡ reserved slot
unfolding same at_slot reserved
within slot h = same_is (in_gap slot) (reserved slot) (at at_slot (replicate 64 0) tt slot h)

all_below : List ℕ → Bool
all_below [] = true
all_below (x ∷ xs) = ltb x 256 && all_below xs

none_beyond : (xs : List ℕ) (a : ℕ) → all_below xs ≡ true → 256 ≤ a → one_of xs a ≡ false
unfolding all_below
none_beyond [] a e h = refl
none_beyond (x ∷ xs) a e h =
    let p = and_split (ltb x 256) (all_below xs) e in
    let l : x < 256 = ltb-true _ _ p.0 in
    rw (ne_eqb x a (λ q. omega arith), none_beyond xs a p.1 h)

beyond : (slot : ℕ) → 64 ≤ slot → in_gap slot ≡ reserved slot
unfolding reserved all_below
beyond slot h =
    rw (none_beyond addresses (4 * slot) refl (omega arith))
    (or_right ((ltb 19 slot && ltb slot 24) || (ltb 48 slot && ltb slot 56)) (lt-ltb 56 slot (omega arith)))

pub gaps_reserved : (slot : ℕ) → in_gap slot ≡ reserved slot
gaps_reserved slot = go (ltb slot 64) refl
  where
    go : (b : Bool) → ltb slot 64 ≡ b → in_gap slot ≡ reserved slot
    go true e = within slot (ltb-true _ _ e)
    go false e = beyond slot (ltb-false _ _ e)

-- A slot that is not reserved is one of the 64.
pub unreserved : (slot : ℕ) → reserved slot ≡ false → slot < 64
unreserved slot e =
    let high = (or_neither ((ltb 19 slot && ltb slot 24) || (ltb 48 slot && ltb slot 56)) (ltb 56 slot) (gaps_reserved slot ∙ e)).1 in
    omega (arith, ltb-false 56 slot high)

pub eighteen_reserved : reserved_below 64 ≡ 18
unfolding reserved
eighteen_reserved = refl
