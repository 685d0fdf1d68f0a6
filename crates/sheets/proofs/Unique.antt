-- For each public call, any two answers and any two states of the lent words that its contract permits are the same.
use Prim.Native.Nat.{ℕ}
use mathlib.Core.Path.{◌≡◌, sym, ap, ◌∙◌}
use mathlib.Core.List.{List, [], ◌∷◌}
use seplogic.Ra.Ura.{Ura}
use base.Logic.{SProp, ent, sep}
use base.Stored.{code_l, coded_ℕ, coded_list}
use base.Fml.{fauth}
use contract.Lifetimes.{Lfts}
use contract.Monad.{Fun, fact, fact_i}
use denote.Triple.Clauses.{AtExit}
use denote.Triple.Entry.{Args, Res}
use types.Logic.{Logic}
use types.Kit.{‵, raw, ◌⊛◌, ◌$◌, ◌∵◌, !, qed, by, drop, split, fpick}
use types.Tokens.{res_agree}
use denote.Follow.{such_by, follows_by}
use prog.Memory.{Memory}
use prog.Routine.{Routine}
use Rattle.std.specs.Prelude.{Result, Ok, Err, MatchResult, IfOk}
use Rattle.std.specs.Borrow.{Bor, MutBor}
use Rattle.refusals.specs.Refusals.{refusal}
use Rattle.refusals.specs.declared.Refusal.{Refusal}
use Rattle.refusals.proofs.Tables.{never}
use Rattle.sheets.specs.Input.{input_told, input_leaves}
use Rattle.sheets.specs.contracts.sheet.Sheet.of_input as of_input
use Rattle.sheets.specs.declared.sheet.Sheet.{Sheet}
use Rattle.sheets.specs.Lists.{Lists, Behind, Places, Leaves}
use Rattle.buffers.proofs.Coincide.{OneAnswer, OneState}
use Rattle.refusals.proofs.Told.{same_told, same_refusal}
use Rattle.sheets.proofs.sheet.Sheet.of_input.Kinds as of_input_kinds
use Rattle.sheets.proofs.sheet.Sheet.of_input.Reads as of_input_reads
use Rattle.sheets.proofs.take.Kinds as take_kinds
use Rattle.sheets.proofs.take.Reads as take_reads
use Rattle.sheets.proofs.input.take_input.Kinds as take_input_kinds
use Rattle.sheets.proofs.input.take_input.Reads as take_input_reads

pub one_take : OneState 2 take_kinds.ps take_kinds.r (λ κs s. s.1.0.now) take_reads.Post
one_take κs a x y s t p q = (same_told x y (p.0 ∙ sym q.0), p.1 ∙ sym q.1)

pub one_take_input : OneState 2 take_input_kinds.ps take_input_kinds.r (λ κs s. s.1.0.now) take_input_reads.Post
one_take_input κs a x y s t p q = (same_told x y (p.0 ∙ sym q.0), p.1 ∙ sym q.1)

-- Two lists of the same words at the same place are the same.
same_list : (lent : MutBor (List ℕ)) (a b : Bor (List ℕ)) (words : List ℕ) (n : ℕ) → a.now ≡ words → b.now ≡ words → Behind lent a n → Behind lent b n → a ≡ b
same_list lent a b words n p q k l =
    λ i. record {
      ref_ptr = ((k.memory ∙ sym l.memory) i, (k.place ∙ sym l.place) i);
      now = (p ∙ sym q) i;
    }

same_sheet : (file : List ℕ) (lent : MutBor (List ℕ)) (x y : Result Sheet Refusal)
    → MatchResult x (Lists file) (λ w. input_told file ≡ refusal w) → IfOk x (Places file lent)
    → MatchResult y (Lists file) (λ w. input_told file ≡ refusal w) → IfOk y (Places file lent) → x ≡ y
same_sheet file lent (Ok s) (Ok t) p k q l =
    λ i. Ok record {
      registers = same_list lent s.registers t.registers _ _ p.registers q.registers k.registers l.registers i;
      video = same_list lent s.video t.video _ _ p.video q.video k.video l.video i;
      cursor = same_list lent s.cursor t.cursor _ _ p.cursor q.cursor k.cursor l.cursor i;
      sound = same_list lent s.sound t.sound _ _ p.sound q.sound k.sound l.sound i;
    }
same_sheet file lent (Ok s) (Err w) p k q l = never (sym p.taken ∙ q)
same_sheet file lent (Err w) (Ok t) p k q l = never (sym q.taken ∙ p)
same_sheet file lent (Err v) (Err w) p k q l = ap Err (same_refusal v w (sym p ∙ q))

pub one_of_input : OneAnswer 2 of_input_kinds.ps of_input_kinds.r of_input_reads.Post
one_of_input κs a x y s t p q = same_sheet _ _ x y p.0 p.1 q.0 q.1

-- Whoever has the lent words back, behind the lists or after a refusal, finds one value there, whatever the answer was.
pub one_of_input_end :
    (end : (κs : Lfts 2) → Args of_input.signature κs → List ℕ)
    × ((M : Type 1) (𝓤 : Ura M) (𝓛 : Logic 𝓤) (mem : Memory → SProp 𝓤) (run : Routine → Fun 𝓤) (κs : Lfts 2) (a : Args of_input.signature κs)
    (g : (of_input.clauses 𝓛 mem run κs a).ghost) (r : Res of_input.signature κs) (s : AtExit of_input.ended κs) (last : List ℕ)
    → ent 𝓤 (sep 𝓤 ((of_input.clauses 𝓛 mem run κs a).ensures g r s) (𝓛.A.auth a.1.0.ghost_name (code_l coded_ℕ.code last)))
    (fact 𝓤 (last ≡ end κs a)))
unfolding such_by follows_by
one_of_input_end = (
  (λ κs a. input_leaves a.0.now a.1.0.now),
  λ M 𝓤 𝓛 mem run κs a g r s last.
      let C = coded_list coded_ℕ in let lent = a.1.0 in let left = input_leaves a.0.now lent.now in
      let listed = MatchResult r (Lists a.0.now) (λ why. input_told a.0.now ≡ refusal why) in
      qed 𝓛 ((raw (fact 𝓤 listed) ⊛ raw (fact 𝓤 (IfOk r (Places a.0.now lent))) ⊛ ‵ (Leaves lent left)) ∷ ‵ (fauth lent.ghost_name (C.code last)) ∷ []) ∵
      split ! $ drop ! $ split ! $ drop ! $ fpick ! (λ x. res_agree ! C (λ e. by ! (fact_i 𝓤 _ _ (sym e ∙ x.2)))),
)
