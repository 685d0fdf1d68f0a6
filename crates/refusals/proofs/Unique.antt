-- For each public call, any two answers that its contract permits are the same: the contract is an equation of the answer.
use mathlib.Core.Path.{◌≡◌, refl, sym, ◌∙◌, ap}
use mathlib.Core.Bool.{Bool, true, false}
use Rattle.std.specs.Prelude.{Result, Ok, Err, MatchResult}
use Rattle.buffers.proofs.Tests.{no}
use Rattle.refusals.specs.declared.Refusal.{Refusal}
use Rattle.buffers.proofs.Coincide.{OneAnswer}
use Rattle.refusals.proofs.Refusal.number.Kinds as number_kinds
use Rattle.refusals.proofs.Refusal.number.Reads as number_reads
use Rattle.refusals.proofs.Refusal.detail.Kinds as detail_kinds
use Rattle.refusals.proofs.Refusal.detail.Reads as detail_reads
use Rattle.refusals.proofs.refuse_if.Kinds as refuse_if_kinds
use Rattle.refusals.proofs.refuse_if.Reads as refuse_if_reads

-- a row gives a refusal exactly where its test holds, and just that one
refused_alike : (wrong : Bool) (why : Refusal) (x y : Result (Unit {0}) Refusal)
    → MatchResult x (λ u. wrong ≡ false) (λ e. (wrong ≡ true) × (e ≡ why))
    → MatchResult y (λ u. wrong ≡ false) (λ e. (wrong ≡ true) × (e ≡ why)) → x ≡ y
refused_alike wrong why (Ok u) (Ok v) p q = refl
refused_alike wrong why (Ok u) (Err e) p q = absurd (no (sym p ∙ q.0))
refused_alike wrong why (Err e) (Ok u) p q = absurd (no (sym q ∙ p.0))
refused_alike wrong why (Err e) (Err d) p q = ap Err (p.1 ∙ sym q.1)

pub one_number : OneAnswer 0 number_kinds.ps number_kinds.r number_reads.Post
one_number κs a x y s t p q = p ∙ sym q

pub one_detail : OneAnswer 0 detail_kinds.ps detail_kinds.r detail_reads.Post
one_detail κs a x y s t p q = p ∙ sym q

pub one_refuse_if : OneAnswer 0 refuse_if_kinds.ps refuse_if_kinds.r refuse_if_reads.Post
one_refuse_if κs a x y s t p q = refused_alike _ _ x y p q
