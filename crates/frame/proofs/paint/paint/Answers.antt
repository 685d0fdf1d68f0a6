-- Rasters painted with what is made ready: each cell of theirs is then the cell rule's.
use Rattle.frame.proofs.Ready.{cells_right, rows_law}
use Rattle.frame.proofs.paint.paint.Goals as goal

pub quads-requires : goal.quads-requires
quads-requires c = cells_right c.args.g c.args.s.depth _ c.ready.ensures

pub returns : goal.returns
returns c =
    rows_law c.args.g c.args.s _ _ _ _ _ _ c.requires.0.accepted.depth c.pens.ensures c.ready.ensures _ _ c.requires.1
    c.rows.ensures
