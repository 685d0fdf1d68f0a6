-- The values of all words, a word a turn: what is stored and what the rest will store make the whole.
use Rattle.std.proofs.Common.{◌≡◌, ◌*◌, drop}
use lib.Seq.{sets}
use Rattle.buffers.specs.Words.{bytes_of}
use Rattle.sound.specs.Values.{counter_after, values_of}
use Rattle.sound.specs.inner.Tables.{left_in, right_in}
use Rattle.sound.proofs.values.Channels.play.Given as goal

abbrev pub invariant-loop-k : goal.invariant-loop-k
invariant-loop-k l =
    (l.next ≡ counter_after l.counter (4 * l.k))
    × (sets l.initial.out 0 (values_of (left_in l.self.sixths) (right_in l.self.sixths) l.counter (bytes_of l.words))
    ≡ sets l.out (8 * l.k) (values_of (left_in l.self.sixths) (right_in l.self.sixths) l.next (bytes_of (drop l.k l.words))))
