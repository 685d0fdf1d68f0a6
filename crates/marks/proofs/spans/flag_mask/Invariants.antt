-- Bit after bit: after each turn the pixels of the bits below q are flagged.
use Rattle.marks.specs.inner.Seen.{Flagged}
use Rattle.marks.proofs.Spanned.{times_below}
use Rattle.marks.proofs.spans.flag_mask.Given as goal

abbrev pub invariant-loop-q : goal.invariant-loop-q
invariant-loop-q l = Flagged l.initial.flags l.flags (times_below l.mask l.q)
