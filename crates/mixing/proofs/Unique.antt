-- For the public call, any two answers that its contract permits are the same, and any two states of the lent answer: both are fixed.
use mathlib.Core.Path.{sym, ◌∙◌}
use Rattle.buffers.proofs.Coincide.{OneState}
use Rattle.refusals.proofs.Told.{same_told}
use Rattle.mixing.proofs.mix.Kinds as mix_kinds
use Rattle.mixing.proofs.mix.Reads as mix_reads

pub one_mix : OneState 3 mix_kinds.ps mix_kinds.r (λ κs s. s.1.1.1.0.now) mix_reads.Post
one_mix κs a x y s t p q = (same_told x y (p.0 ∙ sym q.0), p.1 ∙ sym q.1)
