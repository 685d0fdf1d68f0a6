-- The test is the rule's, and each branch shows what the rule says.
use Rattle.mixing.proofs.lay.shown_over.Goals as goal

pub returns-then-own-code : goal.returns-then-own-code
returns-then-own-code c = rw (rw c.of-own.ensures at c.if-own-code.true)

pub returns : goal.returns
returns c = rw (rw c.of-own.ensures at c.if-own-code.false, c.of-own.ensures)
