-- Each turn adds one line's bytes.
use Prim.Native.Nat.{◌*◌, ◌≤◌}
use mathlib.Core.Path.{◌≡◌}
use lib.ListN.{length}
use Rattle.cells.specs.Picture.{picture_told}
use Rattle.outputs.specs.Text.{first_lines}
use Rattle.outputs.proofs.whole.measure.Given as goal

abbrev pub invariant-loop-k : goal.invariant-loop-k
invariant-loop-k l =
    (l.total ≡ length (first_lines l.p.g l.p.video.now l.p.cursor.now (picture_told l.p.g l.p.video.now l.p.cursor.now) l.k))
    × (l.total ≤ 8256 * l.k) × (length l.bytes ≡ 8256)
