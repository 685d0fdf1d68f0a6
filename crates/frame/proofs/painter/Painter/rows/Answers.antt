-- Raster after raster: one raster more is painted, at its place among them.
use Rattle.std.proofs.Common.{◌≡◌, ◌+◌, ◌*◌, ◌-◌, mul_comm, arith}
use Rattle.buffers.proofs.Paints.{paint_next, paints_painted}
use Rattle.frame.proofs.Edges.{edged_next}
use Rattle.frame.proofs.Parts.{part_painted}
use Rattle.frame.proofs.Rasters.{row_room, next_place, row_same}
use Rattle.frame.specs.inner.Ink.{rows_ink, ink}
use Rattle.frame.proofs.painter.Painter.rows.Goals as goal

pub loop-y-preserved : goal.loop-y-preserved
loop-y-preserved c =
    let l = c.loop-y in
    let p = c.args.self.now in
    let first = c.args.first.0 in
    let n = p.s.n.0 in
    let at = c.from.result * c.from-n.result in
    let start : at ≡ (l.y - first) * n = rw (c.from.ensures, c.from-n.ensures) in
    let next = next_place first l.y n l.auto.y in
    let room = row_room n first c.args.end.0 l.y l.auto.y c.loop-y-test.true in
    let raster =
    part_painted l.out c.row.new.out at (at + c.from-n.result - at) ((l.y - first) * n) ((l.y + 1 - first) * n) start
    (omega (arith, next, c.from-n.ensures)) (omega (arith, next, room, c.requires.0, l.invariant.0.len))
    (rows_ink p.s p.pens.now p.table.now p.video.now p.cursor.now first)
    (ink p.s p.pens.now p.table.now p.video.now p.cursor.now l.y) n (omega (arith, c.from-n.ensures)) c.row.ensures
    (λ j h. row_same p.s _ _ _ _ first l.y j l.auto.y (omega (arith, c.from-n.ensures))) in
    (paint_next {d = 0} (omega arith) (omega (arith, next)) l.invariant.0 raster, λ e. edged_next p.s _ first l.y e _ c.renew.ensures)

pub returns : goal.returns
returns c =
    let l = c.loop-y in
    let n = c.args.self.now.s.n.0 in
    let y : l.y ≡ c.args.end.0 = omega arith in
    paints_painted {d = 0} c.requires.0 (rw (y, mul_comm (c.args.end.0 - c.args.first.0) n) at l.invariant.0)
