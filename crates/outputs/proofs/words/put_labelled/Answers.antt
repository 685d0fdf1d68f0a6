-- The letters, then at most ten digits behind them.
use Rattle.buffers.proofs.Puts.{put_then}
use Rattle.outputs.proofs.Puts.{put_decimal, few_digits}
use Rattle.outputs.specs.Text.{labelled}
use native.Mathlib.Omega.{arith}
use Rattle.outputs.proofs.words.put_labelled.Goals as goal

pub put_number-requires : goal.put_number-requires
put_number-requires c =
    omega (arith, few_digits c.args.n, c.requires, c.put_bytes-next.ensures.after, c.put_bytes-next.auto.out)

pub returns : goal.returns
unfolding labelled
returns c =
    let put_number = c.put_number in
    let few = few_digits c.args.n in
    let put = c.put_bytes-next.ensures in (
      put_then _ _ put
          (put_decimal c.args.n (omega (arith, few, c.requires, put.after, c.put_bytes-next.auto.out)) put_number.ensures.0 put_number.ensures.1),
      omega (arith, few, put_number.ensures.0, put.after),
    )
