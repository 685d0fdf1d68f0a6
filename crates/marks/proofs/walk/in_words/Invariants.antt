-- Four sums, one for each word of four: together they are the sum over the words so far.
use Rattle.std.proofs.Common.{◌≡◌, ◌+◌, ◌*◌, ◌/◌, length}
use Rattle.marks.specs.Count.{total}
use Rattle.marks.specs.inner.Bright.{word_bright_at}
use Rattle.marks.proofs.walk.in_words.Given as goal

abbrev pub invariant-loop-w : goal.invariant-loop-w
invariant-loop-w l = l.a + l.b + l.c + l.d ≡ total (word_bright_at l.bytes l.words) (4 * l.w-index)

abbrev pub invariant-loop-word : goal.invariant-loop-word
invariant-loop-word l = l.a + l.b + l.c + l.d ≡ total (word_bright_at l.bytes l.words) (4 * (length l.words / 4) + l.word-index)
