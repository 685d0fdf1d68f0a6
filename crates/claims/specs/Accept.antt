-- A list handed over in two calls.
use Rattle.std.specs.Prelude.{◌≡◌, ◌++◌}
use Rattle.claims.specs.Views.{AcceptRun}

-- The first half goes to the record that the whole list goes to, the second half to the record that the first call hands back.
pub record InHalves (whole first second : AcceptRun) : Type 0 where
  pub words_are : whole.words ≡ first.words ++ second.words
  pub first_record : first.registers ≡ whole.registers
  pub second_record : second.registers ≡ first.handed
