-- For each public call, any two answers that its contract permits are the same: what they tell is fixed, and that fixes the answer.
use mathlib.Core.Path.{sym, ◌∙◌}
use Rattle.buffers.proofs.Coincide.{OneAnswer}
use Rattle.refusals.proofs.Told.{same_told}
use Rattle.cells.proofs.words_wrong.Kinds as words_wrong_kinds
use Rattle.cells.proofs.words_wrong.Reads as words_wrong_reads
use Rattle.cells.proofs.judge.Kinds as judge_kinds
use Rattle.cells.proofs.judge.Reads as judge_reads

pub one_words_wrong : OneAnswer 2 words_wrong_kinds.ps words_wrong_kinds.r words_wrong_reads.Post
one_words_wrong κs a x y s t p q = p ∙ sym q

pub one_judge : OneAnswer 2 judge_kinds.ps judge_kinds.r judge_reads.Post
one_judge κs a x y s t p q = same_told x y (p ∙ sym q)
