-- Each entry is what the rule answers.
use Rattle.std.proofs.Common.{rules}
use Rattle.marks.proofs.tables.lit_pixels.Goals as goal

pub returns : goal.returns
returns c = record { len = c.table_of.ensures.len; on = λ k h. let t = c.table_of.ensures.each k h in search rules }
