-- A refused picture has one line, which is line 0; any other's are those of its setting.
use Rattle.buffers.proofs.Puts.{put_nothing}
use Rattle.outputs.proofs.Texts.{refused_later, refused_first, line_given}
use Rattle.outputs.proofs.text.line.Goals as goal

pub returns-in-Ok : goal.returns-in-Ok
returns-in-Ok c =
    let p = c.in-Ok.picture in
    let same = c.in-Ok.ensures in
    let line = line_given p.g p.video.now p.cursor.now c.args.k p.s p.accepted in
    rw (← same.0, ← same.1, ← same.2) (rw line c.picture_line.ensures)

pub returns-in-Err : goal.returns-in-Err
returns-in-Err c =
    let a = c.args in
    rw (refused_first a.g a.video.now a.cursor.now a.k _ c.in-Err.ensures c.if-k-eq0.true) c.put_refused.ensures

pub returns-in-Err-2 : goal.returns-in-Err-2
returns-in-Err-2 c =
    let a = c.args in
    rw (refused_later a.g a.video.now a.cursor.now a.k _ c.in-Err-2.ensures c.if-k-eq0.false) (put_nothing _)
