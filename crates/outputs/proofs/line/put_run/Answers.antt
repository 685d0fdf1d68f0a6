-- A code, the letter x and a number, each put behind the one before.
use Rattle.outputs.proofs.Stored.{run_stored}
use Rattle.outputs.proofs.Lengths.{length_run, run_fits}
use lib.ListN.{length-set}
use mathlib.Core.Path.{◌∙◌}
use native.Mathlib.Omega.{arith}
use Rattle.outputs.proofs.line.put_run.Goals as goal

pub put_number-x-requires : goal.put_number-x-requires
put_number-x-requires c =
    let n = length_run c.args.code c.args.n in
    let fits = run_fits c.args.code c.args.n c.requires.0 c.requires.1 in
    omega (arith, c.requires.2, fits, n)

pub bounds-out-x : goal.bounds-out-x
bounds-out-x c =
    let n = length_run c.args.code c.args.n in
    let fits = run_fits c.args.code c.args.n c.requires.0 c.requires.1 in
    omega (arith, c.requires.2, fits, n, c.put_number-x.ensures.0, c.put_number-x.auto.out)

pub overflow_add-x : goal.overflow_add-x
overflow_add-x c =
    let n = length_run c.args.code c.args.n in
    let fits = run_fits c.args.code c.args.n c.requires.0 c.requires.1 in
    omega (arith, c.requires.2, fits, n, c.put_number-x.ensures.0, c.put_number-x.auto.out)

pub put_number-requires : goal.put_number-requires
put_number-requires c =
    let n = length_run c.args.code c.args.n in
    let fits = run_fits c.args.code c.args.n c.requires.0 c.requires.1 in
    simp length-set (omega (arith, c.requires.2, fits, n, c.put_number-x.ensures.0, c.put_number-x.auto.out))

pub shape_of-out : goal.shape_of-out
shape_of-out c = c.put_number.auto.out ∙ (simp length-set c.put_number-x.auto.out)

pub returns : goal.returns
returns c =
    let code = c.put_number-x.ensures in
    let number = c.put_number.ensures in
    let n = length_run c.args.code c.args.n in
    let fits = run_fits c.args.code c.args.n c.requires.0 c.requires.1 in (
      omega (arith, number.0, code.0, n),
      omega (arith, number.0, code.0, n, fits),
      run_stored _ _ _ _ _ c.args.code c.args.n code.0 code.1 number.1,
    )
