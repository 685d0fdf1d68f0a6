-- Raster after raster: after each turn those before y are painted, and the line holds the cells of raster y unless it is made anew.
use Rattle.std.proofs.Common.{◌≡◌, ◌-◌, ◌*◌, false}
use Rattle.buffers.proofs.Paints.{Paints}
use Rattle.frame.specs.inner.Lines.{Edged, anew}
use Rattle.frame.specs.inner.Ink.{rows_ink}
use Rattle.frame.proofs.painter.Painter.rows.Given as goal

abbrev pub invariant-loop-y : goal.invariant-loop-y
invariant-loop-y l =
    Paints 0 l.initial.out l.out 0 ((l.y - l.first.0) * l.self.s.n.0)
    (rows_ink l.self.s l.self.pens.now l.self.table.now l.self.video.now l.self.cursor.now l.first.0)
    × (anew l.self.s l.first.0 l.y ≡ false → Edged l.self.s l.self.pens.now l.y l.line)
