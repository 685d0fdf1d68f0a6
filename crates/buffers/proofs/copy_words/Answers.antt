-- The first words, one a turn, as far as there are bytes and room: what is stored and what the rest will store make the whole.
use mathlib.Core.Path.{sym, ◌∙◌}
use native.Mathlib.Omega.{arith}
use Rattle.buffers.proofs.Turns.{copy_turn, copy_done}
use Rattle.buffers.proofs.copy_words.Goals as goal

pub loop-k-preserved : goal.loop-k-preserved
loop-k-preserved c =
    c.loop-k.invariant ∙ copy_turn c.args.bytes.now c.args.count c.loop-k.out c.loop-k.k c.joined.result (omega arith) c.joined.ensures

pub returns : goal.returns
returns c = sym (c.loop-k.invariant ∙ copy_done c.args.bytes.now c.args.count c.loop-k.out c.loop-k.k (omega arith))
