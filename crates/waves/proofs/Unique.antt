-- For each public call, any two answers and any two states of the lent bytes that its contract permits are the same.
use mathlib.Core.Path.{sym, ◌∙◌}
use Rattle.buffers.proofs.Coincide.{OneState}
use Rattle.waves.proofs.head.head.Kinds as head_kinds
use Rattle.waves.proofs.head.head.Reads as head_reads
use Rattle.waves.proofs.samples.samples.Kinds as samples_kinds
use Rattle.waves.proofs.samples.samples.Reads as samples_reads

pub one_head : OneState 1 head_kinds.ps head_kinds.r (λ κs s. s.1.1.0.now) head_reads.Post
one_head κs a x y s t p q = (p.after ∙ sym q.after, p.stored ∙ sym q.stored)

pub one_samples : OneState 2 samples_kinds.ps samples_kinds.r (λ κs s. s.1.0.now) samples_reads.Post
one_samples κs a x y s t p q = (p.after ∙ sym q.after, p.stored ∙ sym q.stored)
