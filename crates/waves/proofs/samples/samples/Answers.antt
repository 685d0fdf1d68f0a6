-- All samples' bytes are stored where they fit, else none.
use Rattle.waves.proofs.Stored.{length_samples}
use Rattle.buffers.proofs.Puts.{put_nothing, put_text, text_short}
use native.Mathlib.Omega.{arith}
use lib.ListN.{length}
use Rattle.waves.specs.Samples.{samples_of}
use Rattle.waves.proofs.samples.samples.Goals as goal

pub returns-then-out-values : goal.returns-then-out-values
returns-then-out-values c =
    let args = c.args in
    rw (text_short (length args.out.now) (samples_of args.values.now) (omega (arith, length_samples args.values.now))) (put_nothing _)

pub returns : goal.returns
returns c =
    let args = c.args in
    put_text args.out.now _ (samples_of args.values.now) _ (omega (arith, length_samples args.values.now)) (omega arith)
    c.put_samples.ensures
