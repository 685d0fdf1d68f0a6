-- A raster with its cursor: the cursor over plain cells is the rule.
use Rattle.frame.proofs.Rasters.{row_law}
use Rattle.frame.proofs.painter.Painter.row.Goals as goal

pub returns : goal.returns
returns c =
    row_law c.args.self.now.s c.args.self.now.picture.accepted _ _ _ _ _ _ _ _ c.args.y.0 c.requires.0 c.requires.1 c.plain.ensures c.cover.ensures
