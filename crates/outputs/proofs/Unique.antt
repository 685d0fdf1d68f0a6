-- For each public call, any two answers and any two states of the lent bytes that its contract permits are the same.
use mathlib.Core.Path.{sym, ◌∙◌}
use Rattle.buffers.proofs.Coincide.{OneState}
use Rattle.outputs.proofs.blocks.block.Kinds as block_kinds
use Rattle.outputs.proofs.blocks.block.Reads as block_reads
use Rattle.outputs.proofs.strips.strip.Kinds as strip_kinds
use Rattle.outputs.proofs.strips.strip.Reads as strip_reads
use Rattle.outputs.proofs.text.line.Kinds as line_kinds
use Rattle.outputs.proofs.text.line.Reads as line_reads
use Rattle.outputs.proofs.text.refused.Kinds as refused_kinds
use Rattle.outputs.proofs.text.refused.Reads as refused_reads
use Rattle.outputs.proofs.whole.text.Kinds as text_kinds
use Rattle.outputs.proofs.whole.text.Reads as text_reads

pub one_line : OneState 3 line_kinds.ps line_kinds.r (λ κs s. s.1.1.1.1.0.now) line_reads.Post
one_line κs a x y s t p q = (p.after ∙ sym q.after, p.stored ∙ sym q.stored)

pub one_refused : OneState 1 refused_kinds.ps refused_kinds.r (λ κs s. s.1.0.now) refused_reads.Post
one_refused κs a x y s t p q = (p.after ∙ sym q.after, p.stored ∙ sym q.stored)

pub one_text : OneState 3 text_kinds.ps text_kinds.r (λ κs s. s.1.1.1.0.now) text_reads.Post
one_text κs a x y s t p q = (p.after ∙ sym q.after, p.stored ∙ sym q.stored)

pub one_strip : OneState 3 strip_kinds.ps strip_kinds.r (λ κs s. s.1.1.1.1.0.now) strip_reads.Post
one_strip κs a x y s t p q = (p.after ∙ sym q.after, p.stored ∙ sym q.stored)

pub one_block : OneState 2 block_kinds.ps block_kinds.r (λ κs s. s.1.1.1.0.now) block_reads.Post
one_block κs a x y s t p q = (p.after ∙ sym q.after, p.stored ∙ sym q.stored)
