-- The sixteen entries, stored one after another: after k turns the first k stand in the list.
use Prim.Native.Nat.{ℕ}
use mathlib.Core.Path.{◌≡◌}
use native.Mathlib.Omega.{arith}
use lib.ListN.{length-replicate}
use Rattle.buffers.proofs.Paints.{paint_none, paint_more}
use Rattle.buffers.proofs.Values.{paints_values}
use Rattle.colours.specs.Colour.{entries_of}
use Rattle.colours.proofs.entries.Goals as goal

pub loop-k-init : goal.loop-k-init
loop-k-init c = paint_none _ _

pub loop-k-preserved : goal.loop-k-preserved
loop-k-preserved c = rw c.from.ensures (paint_more _ (omega arith) (omega arith) c.palette.ensures c.loop-k.invariant)

pub returns : goal.returns
unfolding entries_of
returns c = let e : c.loop-k.k ≡ 16 = omega arith in
    paints_values _ _ 16 _ (length-replicate {A = ℕ} 16 0) (rw e at c.loop-k.invariant)
