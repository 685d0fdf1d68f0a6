-- Two bytes a value, a value a turn: what is stored and what the rest will store make the whole.
use Prim.Native.Nat.{◌*◌}
use mathlib.Core.Path.{◌≡◌}
use lib.ListN.{drop}
use lib.Seq.{sets}
use Rattle.waves.specs.Samples.{samples_of}
use Rattle.waves.proofs.samples.put_samples.Given as goal

abbrev pub invariant-loop-k : goal.invariant-loop-k
invariant-loop-k l = sets l.initial.out 0 (samples_of l.values) ≡ sets l.out (2 * l.k) (samples_of (drop l.k l.values))
