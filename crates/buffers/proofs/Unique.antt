-- For each public call, any two answers that its contract permits are the same, and any two states of lent memory.
use mathlib.Core.Path.{refl, sym, ◌∙◌}
use Rattle.buffers.proofs.Coincide.{OneAnswer, OneState}
use Rattle.buffers.proofs.joined.Kinds as joined_kinds
use Rattle.buffers.proofs.joined.Reads as joined_reads
use Rattle.buffers.proofs.copy_words.Kinds as copy_words_kinds
use Rattle.buffers.proofs.copy_words.Reads as copy_words_reads
use Rattle.buffers.proofs.put_words.Kinds as put_words_kinds
use Rattle.buffers.proofs.put_words.Reads as put_words_reads

pub one_joined : OneAnswer 0 joined_kinds.ps joined_kinds.r joined_reads.Post
one_joined κs a x y s t p q = p ∙ sym q

pub one_copy_words : OneState 2 copy_words_kinds.ps copy_words_kinds.r (λ κs s. s.1.1.0.now) copy_words_reads.Post
one_copy_words κs a x y s t p q = (refl, p ∙ sym q)

pub one_put_words : OneState 2 put_words_kinds.ps put_words_kinds.r (λ κs s. s.0.now) put_words_reads.Post
one_put_words κs a x y s t p q = (refl, p ∙ sym q)
