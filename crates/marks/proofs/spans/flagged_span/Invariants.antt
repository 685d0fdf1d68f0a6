-- Word after word by flags: after each turn the sum and the flags are those of the words before it.
use Rattle.std.proofs.Common.{◌≡◌}
use Rattle.marks.specs.Count.{total}
use Rattle.marks.specs.inner.Bright.{word_bright_at}
use Rattle.marks.specs.inner.Seen.{only, Flagged}
use Rattle.marks.proofs.spans.flagged_span.Given as goal

abbrev pub invariant-loop-word : goal.invariant-loop-word
invariant-loop-word l =
    (l.count ≡ total (word_bright_at l.bytes l.words) l.word-index)
    × Flagged l.initial.flags l.flags (λ q. total (word_bright_at (only q) l.words) l.word-index)
