-- Two labelled numbers and an end, each put behind the one before.
use Rattle.outputs.specs.Text.{pair_line}
use Rattle.buffers.proofs.Puts.{put_then}
use Rattle.outputs.proofs.words.put_pair.Goals as goal

pub returns : goal.returns
unfolding pair_line
returns c =
    let put_labelled = c.put_labelled-x in
    let put_labelled2 = c.put_labelled-y in
    let put_bytes = c.put_bytes in
    put_then _ _ put_labelled.ensures.0 (put_then _ _ put_labelled2.ensures.0 put_bytes.ensures)
