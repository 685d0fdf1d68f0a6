-- Eight cells of the first one's code after another are passed over, and those after them are counted.
use Prim.Native.Nat.{◌-◌}
use mathlib.Core.Path.{refl, ap}
use native.Mathlib.Omega.{arith}
use lib.ListN.{length, drop, length-drop}
use lib.Seq.{take_all, length-take-le}
use Rattle.outputs.proofs.Stored.{same_further, eight_further}
use Rattle.outputs.proofs.line.run_length.Goals as goal

pub loop-eight-preserved : goal.loop-eight-preserved
loop-eight-preserved c =
    let cells = c.args.cells.now in
    let i = c.loop-eight.same in
    let n = length-drop i cells in
    let cut = rw (take_all (length cells - i) (drop i cells) (omega (arith, n))) at c.in-Some.ensures.cases in
    let eight = length-take-le 8 (drop i cells) cut.enough in
    record {
      most = omega (arith, cut.enough, n);
      each = eight_further cells _ i c.loop-eight.invariant.most c.loop-eight.invariant.each _ cut.same
          (λ k h. c.if-not-all_have.ensures refl k (omega (arith, ap length cut.same, eight)));
    }

pub returns : goal.returns
returns c =
    let cells = c.args.cells.now in
    let i = c.loop-eight.same in
    same_further cells _ i c.loop-eight.invariant.most c.loop-eight.invariant.each _
    (rw (take_all (length cells - i) (drop i cells) (omega (arith, length-drop i cells))) at c.count_same.ensures)
