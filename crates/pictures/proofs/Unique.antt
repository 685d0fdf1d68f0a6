-- For each public call, any two answers and any two states of what it was lent that its contract permits are the same.
use mathlib.Core.Path.{sym, ◌∙◌}
use Rattle.buffers.proofs.Coincide.{OneAnswer, OneState}
use Rattle.pictures.proofs.guns.Kinds as guns_kinds
use Rattle.pictures.proofs.guns.Reads as guns_reads
use Rattle.pictures.proofs.head.Head.is_whole.Kinds as is_whole_kinds
use Rattle.pictures.proofs.head.Head.is_whole.Reads as is_whole_reads
use Rattle.pictures.proofs.head.Head.is_open.Kinds as is_open_kinds
use Rattle.pictures.proofs.head.Head.is_open.Reads as is_open_reads
use Rattle.pictures.proofs.head.Head.next.Kinds as next_kinds
use Rattle.pictures.proofs.head.Head.next.Reads as next_reads
use Rattle.pictures.proofs.read.colours.Kinds as colours_kinds
use Rattle.pictures.proofs.read.colours.Reads as colours_reads

pub one_guns : OneState 2 guns_kinds.ps guns_kinds.r (λ κs s. s.1.0.now) guns_reads.Post
one_guns κs a x y s t p q = (p.after ∙ sym q.after, p.stored ∙ sym q.stored)

pub one_colours : OneState 2 colours_kinds.ps colours_kinds.r (λ κs s. s.1.0.now) colours_reads.Post
one_colours κs a x y s t p q = (p.0 ∙ sym q.0, p.1 ∙ sym q.1)

pub one_head_is_whole : OneAnswer 0 is_whole_kinds.ps is_whole_kinds.r is_whole_reads.Post
one_head_is_whole κs a x y s t p q = p ∙ sym q

pub one_head_is_open : OneAnswer 0 is_open_kinds.ps is_open_kinds.r is_open_reads.Post
one_head_is_open κs a x y s t p q = p ∙ sym q

pub one_head_next : OneAnswer 0 next_kinds.ps next_kinds.r next_reads.Post
one_head_next κs a x y s t p q = p ∙ sym q
