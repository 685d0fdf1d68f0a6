-- Once it is neither refused nor short of room, what is stored is what the record's own stereo values give.
use Rattle.std.proofs.Common.{◌*◌, ◌/◌, length, ap, ◌∙◌, arith, ltb-false, le-ltb}
use lib.Seq.{sets}
use Rattle.sound.proofs.Accepted.{play_rows}
use Rattle.sound.proofs.Eleven.{values_by}
use Rattle.sound.proofs.play.Goals as goal

pub returns-clause-left : goal.returns-clause-left
returns-clause-left c =
    let g = c.args.registers in
    let words = c.args.words.now in
    let out = c.args.out.now in
    let room = ltb-false (length out / 8) (length words) c.in_ok-refuse_if.ensures in
    rw (play_rows g (length words) (length out), ← c.in_ok-check_sound.ensures, le-ltb (length out) (8 * length words) (omega (arith, room)))
    (c.play.ensures.1 ∙ ap (sets out 0) (values_by g c.of.result.sixths c.of.ensures c.args.counter.now words))
