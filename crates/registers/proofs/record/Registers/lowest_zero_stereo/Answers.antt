-- The stereo registers searched from the first: what `find` gives is the lowest, or none has a value 0.
use mathlib.Core.Path.{◌≡◌}
use mathlib.Core.Bool.{true, false}
use native.Mathlib.Omega.{arith}
use lib.ListN.{get_or}
use lib.Dec.{eqb}
use Prim.Native.Nat.{◌%◌}
use borrow.Author.Rules.{rules}
use Rattle.std.proofs.Common.{tests}
use Rattle.std.proofs.lemmas.Iterator.{first_from_Range}
use Rattle.registers.proofs.Groups.{first_slot}
use Rattle.registers.proofs.record.Registers.lowest_zero_stereo.Goals as goal

pub returns : goal.returns
returns c =
    let v = c.args.self.now.values in
    first_slot 96 124 (λ j. eqb (get_or v j 0 % 8) 0) (omega arith) _
    (first_from_Range _ _ _ _ (λ j. eqb (get_or v j 0 % 8) 0 ≡ true) (λ j. eqb (get_or v j 0 % 8) 0 ≡ false) c.find.ensures.ran (λ x q h. search (rules, tests))
    (λ x q h. search (rules, tests)))
