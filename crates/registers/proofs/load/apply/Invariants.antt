-- All words stored, one a turn: what the rest of the list does to the record so far is what the whole list does to the first.
use Rattle.std.proofs.Common.{◌≡◌, drop}
use Rattle.registers.specs.Load.{applied}
use Rattle.registers.proofs.load.apply.Given as goal

abbrev pub invariant-loop-word : goal.invariant-loop-word
invariant-loop-word l = applied l.initial.g l.words ≡ applied l.g (drop l.word-index l.words)
