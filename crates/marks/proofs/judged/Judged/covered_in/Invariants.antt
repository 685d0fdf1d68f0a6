-- A cursor raster: after each turn the sum is that over the positions below i.
use Rattle.std.proofs.Common.{◌≡◌, ◌≤◌, ◌+◌, ◌*◌}
use Rattle.marks.specs.inner.Bright.{cursor_bright}
use Rattle.marks.specs.Count.{total}
use Rattle.marks.proofs.judged.Judged.covered_in.Given as goal

abbrev pub invariant-loop-i : goal.invariant-loop-i
invariant-loop-i l =
    (l.sum ≡ total (cursor_bright l.self.s l.self.video.now l.self.cursor.now l.bright (l.self.s.vcs.0 + l.j)) l.i) × (l.sum ≤ 255 * l.i)
