-- Byte after byte: after the last the table is that of quads.
use Rattle.std.proofs.Common.{◌≡◌, arith}
use Rattle.frame.proofs.QuadCells.{quads_right}
use Rattle.frame.proofs.quads.join.Goals as goal

pub returns : goal.returns
returns c = let e : c.loop-b.b ≡ 256 = omega arith in
    quads_right c.args.table.now c.loop-b.quads c.requires (rw e at c.loop-b.invariant.1)
