-- A refused picture has no strip; any other's are those of its setting.
use Rattle.buffers.proofs.Puts.{put_nothing}
use Rattle.outputs.proofs.Pictures.{strip_refused, strip_given}
use Rattle.outputs.proofs.strips.strip.Goals as goal

pub returns-in-Ok : goal.returns-in-Ok
returns-in-Ok c =
    let p = c.in-Ok.picture in
    let same = c.in-Ok.ensures in
    let strip = strip_given p.g p.video.now p.cursor.now c.args.k p.s p.accepted in
    rw (← same.0, ← same.1, ← same.2) (rw strip c.picture_strip.ensures)

pub returns-in-Err : goal.returns-in-Err
returns-in-Err c = rw (strip_refused c.args.g c.args.video.now c.args.cursor.now c.args.k _ c.in-Err.ensures) (put_nothing _)
