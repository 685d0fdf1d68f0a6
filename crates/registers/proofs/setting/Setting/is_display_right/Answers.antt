-- The rule, comparison by comparison.
use Rattle.registers.proofs.Order.{at_most, below}
use Rattle.registers.proofs.setting.Setting.is_display_right.Goals as goal

pub returns : goal.returns
returns c = simp (c.le.ensures, c.le-2.ensures, c.lt.ensures, c.le-3.ensures, c.le-4.ensures, at_most, below)
