-- Cell after cell: the four are all of the stretch.
use Rattle.std.proofs.Common.{◌≡◌, arith}
use Rattle.buffers.proofs.Paints.{paints_painted}
use Rattle.frame.proofs.quads.put_quad.Goals as goal

pub returns : goal.returns
returns c =
    let e : c.loop-j.j ≡ 4 = omega arith in
    paints_painted {d = 0} (omega arith) (rw e at c.loop-j.invariant)
