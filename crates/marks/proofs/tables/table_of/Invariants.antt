-- Entry after entry: the first k are answers of the rule.
use Rattle.std.proofs.Common.{◌≡◌, ℕ, ◌<◌, length, get_or}
use Rattle.marks.proofs.tables.table_of.Given as goal

abbrev pub invariant-loop-k : goal.invariant-loop-k
invariant-loop-k g l = (length l.entry-items ≡ 256) × ((i : ℕ) → i < l.k → goal.F-post g l.rule i (get_or l.entry-items i l.fn.none))
