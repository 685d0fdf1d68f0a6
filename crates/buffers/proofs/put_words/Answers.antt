-- Without room for all nothing is stored; with it, a word a turn: what is stored and what the rest will store make the whole.
use mathlib.Core.Path.{sym, ◌∙◌}
use Prim.Native.Nat.{◌-◌}
use native.Mathlib.Omega.{arith}
use lib.ListN.{length}
use Rattle.buffers.proofs.Turns.{put_turn, put_done, bytes_short, bytes_fit}
use Rattle.buffers.proofs.put_words.Goals as goal

pub returns-then-saturating_sub-words : goal.returns-then-saturating_sub-words
returns-then-saturating_sub-words c = sym (rw (bytes_short c.args.words.now (length c.args.out.now - c.args.at) (omega arith)))

pub loop-k-preserved : goal.loop-k-preserved
loop-k-preserved c =
    c.loop-k.invariant ∙ put_turn c.args.words.now c.loop-k.out _ c.args.at c.loop-k.k c.loop-k-test.true c.put_word.ensures

pub returns : goal.returns
returns c =
    rw (bytes_fit c.args.words.now (length c.args.out.now - c.args.at) (omega arith))
    (sym (c.loop-k.invariant ∙ put_done c.args.words.now c.loop-k.out _ c.loop-k.k c.loop-k-test.false))
