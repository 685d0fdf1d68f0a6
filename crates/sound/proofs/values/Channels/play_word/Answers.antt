-- A byte a turn: what is stored and what the rest will store make the whole.
use Rattle.std.proofs.Common.{refl, sym, ◌∙◌, arith, rules}
use Rattle.buffers.specs.Words.{bytes_of}
use Rattle.sound.specs.Values.{counter_after}
use Rattle.sound.specs.inner.Tables.{left_in, right_in}
use Rattle.sound.proofs.Turns.{by_counter, byte_turn, bytes_done}
use Rattle.sound.proofs.values.Channels.play_word.Goals as goal

pub loop-k-preserved : goal.loop-k-preserved
loop-k-preserved c =
    let l = c.loop-k in
    let self = c.args.self.now in
    let bytes = c.to_le_bytes-bytes.result in
    let now = counter_after c.args.counter l.k in
    let s = by_counter self.sixths self.few self.again now _ _ _ _ (omega arith) (omega arith) (search rules) refl c.sides-sides.ensures in
    l.invariant
    ∙ byte_turn (left_in self.sixths) (right_in self.sixths) bytes l.out _ _ l.k now _ _ _ (omega arith) (omega arith) (omega arith) s.left s.right

pub returns : goal.returns
unfolding bytes_of
returns c =
    let l = c.loop-k in
    let self = c.args.self.now in
    let left = left_in self.sixths in
    let right = right_in self.sixths in
    rw (← c.to_le_bytes-bytes.ensures)
    (sym (l.invariant ∙ bytes_done left right c.to_le_bytes-bytes.result l.out _ l.k _ (omega arith)))
