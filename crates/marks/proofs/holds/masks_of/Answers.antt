-- At depths up to 4 each entry is its byte's mask.
use Rattle.std.proofs.Common.{rules}
use Rattle.marks.proofs.holds.masks_of.Goals as goal

pub returns : goal.returns
returns c = λ l. record { len = c.table_of.ensures.len; on = λ b h. let t = c.table_of.ensures.each b h in search rules }
