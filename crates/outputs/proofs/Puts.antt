-- Texts stored one after the other.
use Prim.Native.Nat.{ℕ, suc, ◌+◌, ◌<◌, ◌≤◌}
use mathlib.Core.Path.{◌≡◌, ◌∙◌}
use mathlib.Core.List.{List}
use native.Mathlib.Numerals.{add-one}
use native.Mathlib.Omega.{arith}
use lib.ListN.{length, get_or, drop, set}
use lib.Seq.{sets, drop-cons}
use Rattle.registers.proofs.First.{lowest_most}
use Rattle.outputs.specs.Decimal.{fits_in, places, decimal}
use Rattle.buffers.specs.Put.{Put}
use Rattle.outputs.proofs.Lengths.{length_decimal}

-- one letter more
pub bytes_turn : (l vs : List ℕ) (at k : ℕ) → k < length vs
    → sets l (at + k) (drop k vs) ≡ sets (set l (at + k) (get_or vs k 0)) (at + (k + 1)) (drop (k + 1) vs)
bytes_turn l vs at k h = let q : at + (k + 1) ≡ suc (at + k) = omega arith in rw (q, add-one, drop-cons vs k 0)

pub put_decimal : {o p : List ℕ} {at x : ℕ} (n : ℕ) → at + places n ≤ length o → x ≡ at + places n → p ≡ sets o at (decimal n)
    → Put o p at (decimal n) x
put_decimal n h e s = record { stored = s; after = e ∙ rw length_decimal; inside = omega arith }

pub few_digits : (n : ℕ) → places n ≤ 10
few_digits n = lowest_most (fits_in n) 9 1
