-- A refused picture's text is the line that refuses it; any other's are its lines.
use Rattle.outputs.proofs.Lines.{refused_text}
use Rattle.outputs.proofs.whole.text.Goals as goal

pub returns-in-Ok : goal.returns-in-Ok
returns-in-Ok c =
    let same = c.in-Ok.ensures in
    rw (← same.0, ← same.1, ← same.2) c.put_picture.ensures

pub returns-in-Err : goal.returns-in-Err
returns-in-Err c =
    let a = c.args in
    rw (refused_text a.g a.video.now a.cursor.now _ c.in-Err.ensures) c.refused.ensures
