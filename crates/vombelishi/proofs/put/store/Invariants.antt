-- A value a turn: what is stored and what the rest will store make the whole.
use Rattle.std.proofs.Common.{◌≡◌, drop}
use Rattle.std.proofs.lemmas.List.Edits.{sets}
use Rattle.vombelishi.proofs.put.store.Given as goal

abbrev pub invariant-loop-k : goal.invariant-loop-k
invariant-loop-k g l = sets l.initial.out 0 l.values ≡ sets l.out l.k (drop l.k l.values)
