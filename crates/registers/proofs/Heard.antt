-- What a record that sound accepts gives: every stereo value is 1 to 7. No slot passes row 10's test, so neither does that of a stereo value.
use Prim.Native.Nat.{ℕ, ◌≤◌}
use mathlib.Core.Bool.{true, false, ◌&&◌}
use mathlib.Core.Path.{◌≡◌}
use native.Mathlib.Omega.{arith}
use borrow.Author.Tests.{ltb-false, eqb-false, le-leb}
use lib.Dec.{eqb}
use Rattle.buffers.proofs.Tests.{or_neither}
use Rattle.refusals.specs.Table.{given}
use Rattle.refusals.proofs.Tables.{passed, given_passes}
use Rattle.registers.specs.Addresses.{stereo_slot}
use Rattle.registers.specs.Stereo.{stereo_in, stereo_of, is_stereo, sound_wrong}
use Rattle.registers.specs.Sound.{sound_table, sound_fault, sound_told}
use Rattle.registers.specs.declared.record.Registers.{Registers}
use Rattle.registers.proofs.First.{lowest_fails}

-- a stereo value that is not at fault is not 0
nonzero : (g : Registers) (slot : ℕ) → 24 ≤ slot → slot ≤ 31 → sound_wrong g slot ≡ false → eqb (stereo_in g slot) 0 ≡ false
nonzero g slot lo hi e =
    let in_range : is_stereo slot ≡ true = rw (le-leb 24 slot lo, le-leb slot 31 hi) in
    rw in_range at (or_neither (is_stereo slot && eqb (stereo_in g slot) 0) _ e).0

pub stereo_positive : (g : Registers) (channel : ℕ) → sound_told g ≡ given tt → 1 ≤ stereo_of g channel
unfolding sound_told
stereo_positive g channel e =
    let rows = sound_table g in
    let fault : 64 ≤ sound_fault g = ltb-false (sound_fault g) 64 (passed 10 rows (given_passes tt rows tt e).0) in
    let fails = lowest_fails (sound_wrong g) 64 0 (stereo_slot channel) (omega arith) (omega arith) in
    let ne = eqb-false (stereo_of g channel) 0 (nonzero g (stereo_slot channel) (omega arith) (omega arith) fails) in
    omega (arith, ne)
