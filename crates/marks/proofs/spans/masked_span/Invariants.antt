-- Word after word by masks: after each turn the sum and the mask are those of the words before it.
use Rattle.std.proofs.Common.{◌≡◌}
use Rattle.marks.specs.Count.{total}
use Rattle.marks.specs.inner.Bright.{word_bright_at}
use Rattle.marks.specs.inner.Seen.{words_mask}
use Rattle.marks.proofs.spans.masked_span.Given as goal

abbrev pub invariant-loop-word : goal.invariant-loop-word
invariant-loop-word l =
    (l.count ≡ total (word_bright_at l.bytes l.words) l.word-index) × (l.mask ≡ words_mask l.masks l.words l.word-index)
