-- For each public call, any two answers that its contract permits are the same, and any two states of the lent cells: both are fixed.
use mathlib.Core.Path.{sym, ◌∙◌}
use Rattle.buffers.proofs.Coincide.{OneState}
use Rattle.refusals.proofs.Told.{same_told}
use Rattle.frame.proofs.frame.Kinds as frame_kinds
use Rattle.frame.proofs.frame.Reads as frame_reads
use Rattle.frame.proofs.raster.Kinds as raster_kinds
use Rattle.frame.proofs.raster.Reads as raster_reads

pub one_frame : OneState 3 frame_kinds.ps frame_kinds.r (λ κs s. s.1.1.1.0.now) frame_reads.Post
one_frame κs a x y s t p q = (same_told x y (p.0 ∙ sym q.0), p.1 ∙ sym q.1)

pub one_raster : OneState 3 raster_kinds.ps raster_kinds.r (λ κs s. s.1.1.1.1.0.now) raster_reads.Post
one_raster κs a x y s t p q = (same_told x y (p.0 ∙ sym q.0), p.1 ∙ sym q.1)
