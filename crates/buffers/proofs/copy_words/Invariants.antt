-- The first words, one a turn, as far as there are bytes and room: what is stored and what the rest will store make the whole.
use mathlib.Core.Path.{◌≡◌}
use Prim.Native.Nat.{◌*◌}
use lib.ListN.{take, drop}
use lib.Seq.{sets}
use Rattle.buffers.specs.Words.{words_of}
use Rattle.buffers.proofs.copy_words.Given as goal

abbrev pub invariant-loop-k : goal.invariant-loop-k
invariant-loop-k l =
    sets l.initial.out 0 (words_of (take (4 * l.count) l.bytes)) ≡ sets l.out l.k (drop l.k (words_of (take (4 * l.count) l.bytes)))
