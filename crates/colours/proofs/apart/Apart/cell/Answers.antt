-- The code above the 13 bits, which lie below it.
use native.Mathlib.Omega.{arith}
use Rattle.colours.proofs.Together.{both_below}
use Rattle.colours.proofs.apart.Apart.cell.Goals as goal

pub overflow_add-result : goal.overflow_add-result
overflow_add-result c = omega (arith, c.both.ensures, both_below c.args.self)
