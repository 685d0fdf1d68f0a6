-- Raster after raster: after each turn the entries of those below r are put.
use Rattle.std.proofs.Common.{◌*◌}
use Rattle.buffers.proofs.Paints.{Paints}
use Rattle.marks.specs.inner.Shown.{number_by}
use Rattle.marks.proofs.entries.put_entries.Given as goal

abbrev pub invariant-loop-r : goal.invariant-loop-r
invariant-loop-r l =
    let t = l.tables.shades in
    let p = l.picture in
    Paints 0 l.initial.out l.out 0 (3 * l.r) (number_by t.greys t.bright p.s p.video.now p.cursor.now)
