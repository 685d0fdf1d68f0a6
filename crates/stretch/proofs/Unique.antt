-- For each call, any two answers that its contract permits are the same. Of a returned part, that it reads the same words at the same place.
use mathlib.Core.Path.{◌≡◌, sym, ◌∙◌}
use borrow.Fn.Kinds.{Dens, res_t, ended_of}
use contract.Lifetimes.{Lfts}
use denote.Triple.Clauses.{AtExit}
use Rattle.buffers.proofs.Coincide.{OneAnswer}
use Rattle.refusals.proofs.Told.{same_told}
use Rattle.stretch.proofs.found.find.Kinds as find_kinds
use Rattle.stretch.proofs.found.find.Reads as find_reads
use Rattle.stretch.proofs.raster_words.Kinds as words_kinds
use Rattle.stretch.proofs.raster_words.Reads as words_reads
use Rattle.stretch.proofs.raster_words_answer.Kinds as answer_kinds
use Rattle.stretch.proofs.raster_words_answer.Reads as answer_reads

pub one_raster_words : (κs : Lfts 1) (a : Dens κs words_kinds.ps) (x y : (res_t words_kinds.r κs).Denot)
    (s t : AtExit (ended_of 1 words_kinds.ps words_kinds.r) κs)
    → words_reads.Post κs a x s → words_reads.Post κs a y t → (x.now ≡ y.now) × (x.ref_ptr ≡ y.ref_ptr)
one_raster_words κs a x y s t p q =
    (p.words ∙ sym q.words, λ i. ((p.memory ∙ sym q.memory) i, (p.place ∙ sym q.place) i))

pub one_raster_words_answer : OneAnswer 1 answer_kinds.ps answer_kinds.r answer_reads.Post
one_raster_words_answer κs a x y s t p q = same_told x y (p ∙ sym q)

pub one_find : OneAnswer 1 find_kinds.ps find_kinds.r find_reads.Post
one_find κs a x y s t p q = same_told x y (p ∙ sym q)
