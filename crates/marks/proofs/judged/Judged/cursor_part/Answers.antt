-- The cursor's part of a raster: none where the cursor is off or has other rasters, else its columns in whole words.
use Rattle.std.proofs.Common.{arith, ◌∙◌}
use Rattle.registers.proofs.Order.{below, at_most}
use Rattle.marks.proofs.Parts.{part_none, part_some}
use Rattle.marks.proofs.judged.Judged.cursor_part.Goals as goal

pub returns-then-s-lt : goal.returns-then-s-lt
returns-then-s-lt c =
    let above = c.lt.ensures ∙ below c.args.y.0 c.args.self.now.s.vcs.0 in
    let under = c.le.ensures ∙ at_most c.args.self.now.s.vce.0 c.args.y.0 in
    part_none _ c.args.self.now.judged.accepted _ (rw (above, under) at c.if-s-lt.true)

pub returns : goal.returns
returns c = rw c.from-per.ensures (part_some _ c.args.self.now.judged.accepted _ (omega arith) (omega arith))
