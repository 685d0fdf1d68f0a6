-- Cursor raster after cursor raster: after each turn the sum is that over the rasters below j.
use Rattle.std.proofs.Common.{◌≡◌, ◌≤◌, ◌*◌}
use Rattle.marks.specs.inner.Bright.{cursor_raster}
use Rattle.marks.specs.Count.{total}
use Rattle.marks.proofs.judged.Judged.covered.Given as goal

abbrev pub invariant-loop-j : goal.invariant-loop-j
invariant-loop-j l = (l.sum ≡ total (cursor_raster l.self.s l.self.video.now l.self.cursor.now l.bright) l.j) × (l.sum ≤ 8160 * l.j)
