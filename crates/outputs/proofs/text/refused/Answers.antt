-- The line is put together in memory of its own, which is always long enough, and copied where it fits.
use native.Mathlib.Omega.{arith}
use lib.ListN.{length}
use Rattle.buffers.proofs.Puts.{put_nothing, text_short, text_fits}
use Rattle.refusals.specs.Refusals.{why_of}
use Rattle.outputs.specs.Text.{refused_line}
use Rattle.outputs.proofs.Texts.{put_back}
use Rattle.outputs.proofs.text.refused.Goals as goal

pub returns-then-out-n : goal.returns-then-out-n
returns-then-out-n c =
    let a = c.args in
    let put = c.put_refused-n.ensures in
    rw (text_short (length a.out.now) (refused_line (why_of a.why)) (omega (arith, put.after, c.if-out-n.true))) (put_nothing _)

pub put_bytes-requires : goal.put_bytes-requires
put_bytes-requires c =
    let put = c.put_refused-n.ensures in
    rw (put_back _ _ _ _ put) (omega (arith, put.after, c.if-out-n.false))

pub returns : goal.returns
returns c =
    let Put-refused = c.put_refused-n in
    let if1 = c.if-out-n in
    let put_bytes = c.put_bytes in
    let a = c.args in
    let put = Put-refused.ensures in
    rw (text_fits (length a.out.now) (refused_line (why_of a.why)) (omega (arith, put.after, if1.false)))
    (rw (put_back _ _ _ _ put) at put_bytes.ensures)
