-- A byte a turn: what is stored and what the rest will store make the whole.
use Rattle.std.proofs.Common.{◌≡◌, ◌+◌, ◌*◌, drop}
use lib.Seq.{sets}
use Rattle.sound.specs.Values.{counter_after, values_of}
use Rattle.sound.specs.inner.Tables.{left_in, right_in}
use Rattle.sound.proofs.values.Channels.play_word.Given as goal

abbrev pub invariant-loop-k : goal.invariant-loop-k
invariant-loop-k l =
    sets l.initial.out l.at (values_of (left_in l.self.sixths) (right_in l.self.sixths) l.counter l.byte-items)
    ≡ sets l.out (l.at + 2 * l.k) (values_of (left_in l.self.sixths) (right_in l.self.sixths) (counter_after l.counter l.k) (drop l.k l.byte-items))
