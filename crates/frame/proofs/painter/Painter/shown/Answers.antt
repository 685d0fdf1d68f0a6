-- A list of words by depth: at depth 8 the quads hold the same cells as the table.
use Rattle.std.proofs.Common.{arith}
use Rattle.buffers.proofs.Paints.{paint_as, paints_of, paints_painted}
use Rattle.frame.specs.inner.Ink.{words_ink}
use Rattle.frame.proofs.QuadCells.{quads_shown}
use Rattle.frame.proofs.painter.Painter.shown.Goals as goal

pub returns-in-8 : goal.returns-in-8
returns-in-8 c =
    let q = c.args.self.now.tables.eight c.in-8.is in
    rw c.in-8.is
    (paints_painted {d = 0} (omega arith)
    (paint_as (words_ink c.args.self.now.table.now c.args.video.now 1) (λ i a b. quads_shown _ _ c.args.video.now i q)
    (paints_of {d = 0} (omega arith) c.quad_words.ensures)))
