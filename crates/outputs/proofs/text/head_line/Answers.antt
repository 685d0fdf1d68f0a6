-- A picture that is not refused has a mark count, and no more words than a number of ten digits tells.
use mathlib.Core.Path.{refl}
use native.Mathlib.Omega.{arith}
use mir.Facts.{Fits-of_lt}
use Rattle.outputs.specs.Text.{picture_head}
use Rattle.outputs.proofs.Given.{few_video, marks_are, marks_value}
use Rattle.outputs.proofs.text.head_line.Goals as goal

pub unwrap-marks-requires : goal.unwrap-marks-requires
unwrap-marks-requires c =
    let p = c.args.p.now in
    rw (marks_are p.g p.video.now p.cursor.now p.s p.accepted _ _ c.marks.ensures) refl

pub overflow_cast-p : goal.overflow_cast-p
overflow_cast-p c =
    let p = c.args.p.now in
    Fits-of_lt (omega (arith, few_video p.g p.video.now p.cursor.now p.s p.accepted))

pub returns : goal.returns
unfolding picture_head
returns c =
    let p = c.args.p.now in
    let marks = marks_value p.g p.video.now p.cursor.now p.s p.accepted _ _ c.marks.ensures _ c.unwrap-marks.ensures in
    rw (← marks, ← c.from.ensures, ← c.from-2.ensures) c.put_head.ensures
