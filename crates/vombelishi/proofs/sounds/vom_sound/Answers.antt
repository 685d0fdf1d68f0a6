-- What the sound call of the record leaves.
use Rattle.vombelishi.specs.Sounds.{sound_call, sound_leaves, counter_leaves}
use Rattle.vombelishi.proofs.Records.{record_is}
use Rattle.vombelishi.proofs.sounds.vom_sound.Goals as goal

pub returns-in-Ok : goal.returns-in-Ok
unfolding sound_call sound_leaves counter_leaves
returns-in-Ok c =
    let made = c.in-Ok.ensures.told in
    let play = c.play.ensures in
    let g = c.registers.ensures in
    (rw (← made, ← g, ← play.told) c.answered.ensures, rw (← made, ← g) play.counted, rw (← made, record_is _ _ _ made, ← g) play.left)
