-- Four labelled numbers and a newline, each put behind the one before; each takes at most ten digits, so that all lie within the memory.
use Rattle.buffers.proofs.Puts.{put_then}
use native.Mathlib.Omega.{arith}
use Rattle.outputs.specs.Text.{head_line}
use Rattle.outputs.proofs.words.put_head.Goals as goal

pub put_labelled-b-requires : goal.put_labelled-b-requires
put_labelled-b-requires c =
    omega (arith, c.put_labelled-a.ensures.1, c.put_labelled-a.auto.out, c.requires)

pub put_labelled-c-requires : goal.put_labelled-c-requires
put_labelled-c-requires c =
    omega (arith, c.put_labelled-b.ensures.1, c.put_labelled-b.auto.out, c.put_labelled-a.ensures.1, c.put_labelled-a.auto.out, c.requires)

pub put_labelled-d-requires : goal.put_labelled-d-requires
put_labelled-d-requires c =
    omega (
      arith,
      c.put_labelled-c.ensures.1,
      c.put_labelled-c.auto.out,
      c.put_labelled-b.ensures.1,
      c.put_labelled-b.auto.out,
      c.put_labelled-a.ensures.1,
      c.put_labelled-a.auto.out,
      c.requires,
    )

pub put_bytes-requires : goal.put_bytes-requires
put_bytes-requires c =
    omega (
      arith,
      c.put_labelled-d.ensures.1,
      c.put_labelled-d.auto.out,
      c.put_labelled-c.ensures.1,
      c.put_labelled-c.auto.out,
      c.put_labelled-b.ensures.1,
      c.put_labelled-b.auto.out,
      c.put_labelled-a.ensures.1,
      c.put_labelled-a.auto.out,
      c.requires,
    )

pub returns : goal.returns
unfolding head_line
returns c =
    let put_labelled = c.put_labelled-a in
    let put_labelled2 = c.put_labelled-b in
    let put_labelled3 = c.put_labelled-c in
    let put_labelled4 = c.put_labelled-d in
    let put_bytes = c.put_bytes in
    put_then _ _ put_labelled.ensures.0 (put_then _ _ put_labelled2.ensures.0
    (put_then _ _ put_labelled3.ensures.0 (put_then _ _ put_labelled4.ensures.0 put_bytes.ensures)))
