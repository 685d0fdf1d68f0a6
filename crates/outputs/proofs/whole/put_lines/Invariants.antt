-- Each line is stored where those before it end, so that together they are the text.
use mathlib.Core.Path.{◌≡◌}
use lib.ListN.{length}
use lib.Seq.{sets}
use Rattle.cells.specs.Picture.{picture_told}
use Rattle.outputs.specs.Text.{first_lines}
use Rattle.outputs.proofs.whole.put_lines.Given as goal

abbrev pub invariant-loop-k : goal.invariant-loop-k
invariant-loop-k l =
    (l.at ≡ length (first_lines l.p.g l.p.video.now l.p.cursor.now (picture_told l.p.g l.p.video.now l.p.cursor.now) l.k))
    × (l.out
    ≡ sets l.initial.out 0 (first_lines l.p.g l.p.video.now l.p.cursor.now (picture_told l.p.g l.p.video.now l.p.cursor.now) l.k))
    × (length l.bytes ≡ 8256)
