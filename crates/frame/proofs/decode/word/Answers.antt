-- A word eight pixels a turn: its parts are all of it.
use Rattle.std.proofs.Common.{◌≡◌, ◌*◌, arith}
use Rattle.buffers.proofs.Paints.{paints_painted}
use Rattle.frame.proofs.decode.word.Goals as goal

pub returns : goal.returns
returns g c =
    let e : 8 * c.loop-part.part ≡ 4 * g.row.PER = omega (arith, c.requires.0.even) in
    paints_painted {d = 0} (omega arith) (rw e at c.loop-part.invariant)
