-- Any two answers that a contract permits are the same, and any two states of lent memory.
use Prim.Native.Nat.{ℕ}
use mathlib.Core.List.{List}
use mathlib.Core.Path.{sym, ◌∙◌}
use Rattle.buffers.proofs.Coincide.{OneAnswer, OneState}
use Rattle.refusals.proofs.Told.{same_told}
use Rattle.marks.proofs.marks.Kinds as marks_kinds
use Rattle.marks.proofs.marks.Reads as marks_reads
use Rattle.marks.proofs.summaries.summaries.Kinds as summaries_kinds
use Rattle.marks.proofs.summaries.summaries.Reads as summaries_reads
use Rattle.marks.proofs.summaries.replace.Kinds as replace_kinds
use Rattle.marks.proofs.summaries.replace.Reads as replace_reads

pub one_marks : OneAnswer 2 marks_kinds.ps marks_kinds.r marks_reads.Post
one_marks κs a x y s t p q = same_told x y (p ∙ sym q)

pub one_summaries : OneState 3 summaries_kinds.ps summaries_kinds.r (λ κs s. s.1.1.1.1.0.now) summaries_reads.Post
one_summaries κs a x y s t p q = (same_told x y (p.0 ∙ sym q.0), p.1 ∙ sym q.1)

pub one_replace : OneState {A = List ℕ × List ℕ} 3 replace_kinds.ps replace_kinds.r (λ κs s. (s.1.0.now, s.1.1.1.1.1.1.0.now)) replace_reads.Post
one_replace κs a x y s t p q = (same_told x y (p.0 ∙ sym q.0), let v = p.1.0 ∙ sym q.1.0 in let e = p.1.1 ∙ sym q.1.1 in rw (v, e))
