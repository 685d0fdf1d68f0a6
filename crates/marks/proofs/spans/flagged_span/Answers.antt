-- A word more is its bytes more, in the sum and among the flags.
use Rattle.std.proofs.Common.{refl}
use Rattle.marks.specs.Count.{total}
use Rattle.marks.proofs.Flags.{flagged_none}
use Rattle.marks.proofs.Spanned.{flags_more}
use Rattle.marks.proofs.Totals.{sum_more}
use Rattle.marks.proofs.spans.flagged_span.Goals as goal

pub loop-word-init : goal.loop-word-init
unfolding total
loop-word-init c = (refl, flagged_none _ _ (λ q l. refl))

pub loop-word-preserved : goal.loop-word-preserved
loop-word-preserved c = (
  sum_more _ _ c.loop-word.invariant.0 c.in_word-count.ensures.0,
  flags_more c.args.words.now _ c.loop-word.invariant.1 c.flag_word.ensures,
)
