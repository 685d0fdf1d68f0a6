-- The sync pin's level for a code and the control data: 0 low, 1 high.
use Rattle.std.specs.Prelude.{ℕ, Bool, ◌||◌, eqb}
use Rattle.buffers.specs.Pick.{pick}
use Rattle.registers.specs.Control.{composite_field}

abbrev pub composite : ℕ → Bool
composite control = eqb (composite_field control) 1

-- Low in vertical sync alone, or under composite where just one of the two syncs runs.
abbrev pub pin_of : ℕ → ℕ → ℕ
pin_of code control = pick (composite control) (pick (eqb code 1 || eqb code 2) 0 1) (pick (eqb code 2 || eqb code 3) 0 1)
