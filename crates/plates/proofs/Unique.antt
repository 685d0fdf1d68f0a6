-- For each public call, any two answers that its contract permits are the same, and so are any two states of lent memory.
use mathlib.Core.Path.{sym, ◌∙◌}
use Rattle.buffers.proofs.Coincide.{OneAnswer, OneState}
use Rattle.refusals.proofs.Told.{same_told}
use Rattle.plates.proofs.read.Kinds as read_kinds
use Rattle.plates.proofs.read.Reads as read_reads
use Rattle.plates.proofs.copy_out.Kinds as copy_kinds
use Rattle.plates.proofs.copy_out.Reads as copy_reads
use Rattle.plates.proofs.write.Kinds as write_kinds
use Rattle.plates.proofs.write.Reads as write_reads

pub one_read_holds : OneAnswer 1 read_kinds.ps read_kinds.r read_reads.Post
one_read_holds κs a x y s t p q = same_told x y (p ∙ sym q)

pub one_copy_out : OneState 2 copy_kinds.ps copy_kinds.r (λ κs s. s.1.0.now) copy_reads.Post
one_copy_out κs a x y s t p q = (same_told x y (p.0 ∙ sym q.0), p.1 ∙ sym q.1)

pub one_write : OneState 5 write_kinds.ps write_kinds.r (λ κs s. s.1.1.1.1.0.now) write_reads.Post
one_write κs a x y s t p q = (same_told x y (p.0 ∙ sym q.0), p.1 ∙ sym q.1)
