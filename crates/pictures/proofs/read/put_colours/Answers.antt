-- Colour after colour: after each turn the first k hold what their threes say, and nothing else has changed.
use mathlib.Core.Path.{◌≡◌}
use Prim.Native.Nat.{◌/◌}
use native.Mathlib.Omega.{arith}
use lib.ListN.{length}
use Rattle.buffers.proofs.Paints.{paints_painted}
use Rattle.pictures.proofs.read.put_colours.Goals as goal

pub returns : goal.returns
returns c =
    let e : c.loop-k.k ≡ length c.args.bytes.now / 3 = omega arith in
    paints_painted c.requires (rw e at c.loop-k.invariant)
