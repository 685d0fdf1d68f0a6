-- Rows 13 and 20 in their order, each by its own test; where neither holds, the places are laid.
use native.Mathlib.Omega.{arith}
use borrow.Author.Tests.{ltb-false}
use lib.ListN.{length}
use lib.Seq.{length-take-le}
use Rattle.mixing.proofs.Calls.{told_large, told_laid, laid}
use Rattle.mixing.proofs.judged_mix.Goals as goal

pub returns-in-Some-clause-told : goal.returns-in-Some-clause-told
returns-in-Some-clause-told c =
    let n = c.from-end.result in
    let a = c.args in
    let long = ltb-false c.min-2.result n c.in_ok-refuse_if.ensures in
    rw (← c.from-end.ensures)
    (told_large n a.cells.now a.camera.now (length a.out.now) (omega arith) (omega arith) (omega arith) c.in-Some.first c.in-Some.ensures)

pub returns-clause-told : goal.returns-clause-told
returns-clause-told c =
    let n = c.from-end.result in
    let a = c.args in
    let long = ltb-false c.min-2.result n c.in_ok-refuse_if.ensures in
    rw (← c.from-end.ensures)
    (told_laid n a.cells.now a.camera.now (length a.out.now) (omega arith) (omega arith) (omega arith) c.in_default.ensures)

pub returns-clause-left : goal.returns-clause-left
returns-clause-left c =
    let n = c.from-end.result in
    let a = c.args in
    let long = ltb-false c.min-2.result n c.in_ok-refuse_if.ensures in
    rw (← c.from-end.ensures)
    (laid n a.cells.now a.camera.now a.out.now c.lay.new.out (omega arith) (omega (arith, length-take-le n a.out.now (omega arith))) c.lay.ensures)
