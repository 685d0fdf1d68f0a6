-- A word a turn: what is stored and what the rest will store make the whole.
use mathlib.Core.Path.{◌≡◌}
use Prim.Native.Nat.{◌+◌, ◌*◌}
use lib.ListN.{drop}
use lib.Seq.{sets}
use Rattle.buffers.specs.Words.{bytes_of}
use Rattle.buffers.proofs.put_words.Given as goal

abbrev pub invariant-loop-k : goal.invariant-loop-k
invariant-loop-k l = sets l.initial.out l.at (bytes_of l.words) ≡ sets l.out (l.at + 4 * l.k) (bytes_of (drop l.k l.words))
