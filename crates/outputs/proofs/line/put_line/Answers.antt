-- Each turn stores a run and its mark, and the rest of the line is that of the cells after it; four bytes a cell are room enough.
use Prim.Native.Nat.{◌-◌}
use mathlib.Core.Path.{sym}
use native.Mathlib.Omega.{arith}
use borrow.Author.Tests.{eqb-true, eqb-false}
use lib.ListN.{length, drop, length-drop}
use lib.Seq.{take_all}
use Rattle.outputs.proofs.Stored.{some_run, line_begins, next_run, line_ends}
use Rattle.outputs.proofs.line.put_line.Goals as goal

pub loop-rest-init : goal.loop-rest-init
loop-rest-init c = line_begins _ _ _ c.requires.0

pub put_run-x-requires : goal.put_run-x-requires
put_run-x-requires c =
    let left = c.loop-rest.rest.now in
    let some = eqb-false (length left) 0 (sym c.loop-rest-test.ensures) in
    let same = c.run_length-n.ensures in
    let u = c.loop-rest.invariant in (
      omega (arith, c.from.ensures, c.type_inv.rest 0),
      some_run left _ (omega arith) same,
      omega (arith, same.high, u.fits, u.len, c.requires.2),
    )

pub bounds-out-x : goal.bounds-out-x
bounds-out-x c =
    let u = c.loop-rest.invariant in
    omega (arith, c.put_run-x.ensures.1, c.put_run-x.auto.out, c.run_length-n.ensures.high, u.fits, u.len, c.requires.2)

pub overflow_add-to : goal.overflow_add-to
overflow_add-to c =
    let u = c.loop-rest.invariant in
    omega (arith, c.put_run-x.ensures.1, c.put_run-x.auto.out, c.run_length-n.ensures.high, u.fits, u.len, c.requires.2)

pub loop-rest-preserved : goal.loop-rest-preserved
loop-rest-preserved c =
    let left = c.loop-rest.rest.now in
    let n = c.run_length-n.result in
    let some = eqb-false (length left) 0 (sym c.loop-rest-test.ensures) in
    let put = rw c.from.ensures at c.put_run-x.ensures in
    let all = take_all (length left - n) (drop n left) (omega (arith, length-drop n left)) in
    let next = next_run _ _ c.args.cells.now left c.args.at c.loop-rest.to n (omega arith) c.run_length-n.ensures c.loop-rest.invariant
    c.put_run-x.new.out c.put_run-x.result put.2 put.0 put.1 in
    rw (c.mark.ensures, c.is_empty-in-loop-rest.ensures, all) next

pub returns : goal.returns
returns c =
    line_ends c.args.cells.now c.loop-rest.rest.now (eqb-true _ _ (sym c.loop-rest-test.ensures)) c.requires.2 c.loop-rest.invariant
