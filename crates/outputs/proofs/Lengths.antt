-- How long the text of a run is.
use Prim.Native.Nat.{ℕ, zero, suc, ◌+◌, ◌*◌, ◌^◌, ◌<◌, ◌≤◌}
use mathlib.Core.Path.{◌≡◌, refl}
use mathlib.Core.Bool.{Bool, true, false}
use native.Mathlib.Omega.{arith}
use lib.ListN.{length, length-append}
use lib.Dec.{ltb}
use borrow.Author.Tests.{lt-ltb, ltb-true, ltb-false}
use Rattle.registers.proofs.First.{lowest_here, lowest_fails}
use Rattle.outputs.specs.Decimal.{fits_in, places, decimal}
use Rattle.outputs.specs.Runs.{run}
use Rattle.outputs.proofs.Tens.{length_digits}

pub length_decimal : (n : ℕ) → length (decimal n) ≡ places n
unfolding decimal
length_decimal n = length_digits n (places n)

pub one_place : (n : ℕ) → n < 10 → places n ≡ 1
one_place n h = lowest_here (fits_in n) 10 1 (omega arith) (lt-ltb n (10 ^ 1) (omega arith))

under_power : (n : ℕ) → n < 10 ^ n
under_power zero = omega arith
under_power (suc n) = omega (arith, under_power n)

-- a number has no more digits than it counts
pub few_places : (n : ℕ) → 1 ≤ n → places n ≤ n
few_places n h = go (ltb n (places n)) refl
  where
    go : (b : Bool) → ltb n (places n) ≡ b → places n ≤ n
    go false e = ltb-false _ _ e
    go true e =
        let f = lowest_fails (fits_in n) 9 1 n h (ltb-true _ _ e) in
        let p : 10 ^ n ≤ n = ltb-false _ _ f in
        absurd (omega (arith, under_power n))

pub length_run : (code n : ℕ) → length (run code n) ≡ places code + (1 + places n)
unfolding run
length_run code n = simp (length-append, length_decimal code, length_decimal n) (omega arith)

-- four bytes a cell hold the run and what follows it
pub run_fits : (code n : ℕ) → code < 8 → 1 ≤ n → length (run code n) + 1 ≤ 4 * n
run_fits code n h k = omega (arith, length_run code n, one_place code (omega arith), few_places n k)
