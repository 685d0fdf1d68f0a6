-- `of_input` meets its contract: a walk of its MIR, by hand. The words are lent to `take_input`, come back, and are shared for good with `of_taken`.
use Prim.Native.Nat.{ℕ}
use mathlib.Core.List.{List, [], ◌∷◌}
use mathlib.Core.Path.{◌≡◌, refl}
use mathlib.Core.Option.{none}
use base.Fraction.{full_share}
use base.Logic.{ent, id⊢}
use base.Fml.{Lft, GName, ftrue, flft, fres}
use mir.Syntax.{named, erased}
use mir.Val.{Val}
use contract.Monad.{fact, fact_i}
use contract.Running.{tables}
use contract.BorrowLft.{⊑_static}
use seplogic.Ra.Ura.{Ura}
use types.Logic.{Logic, sem}
use types.Kit.{‵, raw, ◌⊛◌, some, later, ◌$◌, ◌∵◌, !, qed, done, drop, move, keep, use0, use1, use2, use3}
use types.Kit.{split, join, fsplit, fjoin, fpack, feq_i, feq_l, pick, await, suffices}
use types.Tokens.{lft_new, lft_end}
use types.Run.{enter, addr, stop, no_more, and_then, returns}
use types.ByLocal.{alloc_all, pass_all, free_all, look_at, get, through, sets, lands_as}
use denote.Array.{Array}
use denote.Builtin.{u8, u32, SliceRefOf, RefMutOf, ArrayOf}
use denote.RattleType.{RattleType}
use denote.Signature.{Slot, plain}
use denote.Exit.{yes, no}
use denote.Follow.{follows_so, follows_by, such_by}
use denote.Laws.{Is, shows}
use denote.Lend.{lends_again, comes_back, LentAgain}
use denote.Param.Laws.{Laws, of_field, array_laws}
use denote.Param.Shared.{copy_shared}
use denote.Ref.{NamedLft, Bor, MutBor, MutRef, mut_vals, mut_Tells}
use denote.Shares.{Shares-less}
use denote.Slice.{ShrSlice, shr_slice_vals, shr_slice_Tells}
use denote.Steps.{nothing, peeks, heard}
use denote.Struct.Field.{u32-field}
use denote.Struct.Laws.{u32-laws, u32-copy}
use denote.Triple.Call.{calls_at}
use denote.Triple.Clauses.{lasts}
use denote.Triple.Spec.{triple_of}
use denote.Triple.Table.{framed}
use denote.Triple.Walked.{Stays, stay_dropped, Goes-dropped, ends_at}
use borrow.Rule.Reshare.{ref_Share}
use borrow.Table.Owned as table
use Rattle.std.specs.Prelude.{Result, MatchResult, IfOk, ⊤}
use Rattle.std.proofs.raw_atomic.Walks.{proved}
use Rattle.std.specs.contracts.result.Result as result
use Rattle.std.proofs.result.Result.TheLaws.{the_row_laws as result_laws}
use Rattle.refusals.specs.Refusals.{says as told_by, refusal as refused}
use Rattle.refusals.specs.declared.Refusal.{Refusal}
use Rattle.refusals.specs.contracts.Refusal as refusal
use Rattle.refusals.proofs.Refusal.TheLaws.{the_row_laws as refusal_laws}
use Rattle.sheets.specs.Input.{input_told, take_input_told, input_leaves}
use Rattle.sheets.specs.Lists.{Lists, Places, Leaves}
use Rattle.sheets.specs.declared.Parts.{Parts}
use Rattle.sheets.specs.declared.sheet.Sheet.{Sheet}
use Rattle.sheets.specs.contracts.Parts as parts
use Rattle.sheets.specs.contracts.sheet.Sheet as sheet
use Rattle.sheets.proofs.Parts.TheLaws.{the_row_laws as parts_laws}
use Rattle.sheets.proofs.sheet.Sheet.TheLaws.{the_row_laws as sheet_laws}
use Rattle.sheets.specs.contracts.sheet.Sheet.of_input as f
use Rattle.sheets.proofs.sheet.Sheet.of_input.Statement.{statement}
use Rattle.sheets.proofs.sheet.Sheet.of_input.Code as code
use Rattle.sheets.specs.contracts.input.take_input as g
use Rattle.sheets.proofs.input.take_input.Met.{met as take_input_met}
use Rattle.sheets.specs.contracts.sheet.Sheet.of_taken as h
use Rattle.sheets.proofs.sheet.Sheet.of_taken.Met.{met as of_taken_met}

abbrev stayed : Stays f.ended.signature.params f.ended.kept
stayed = (stay_dropped _ yes, (stay_dropped _ no, tt))

abbrev R : RattleType
R = Array u32 16384

abbrev Bytes : Slot 2
Bytes = SliceRefOf (0 ∷ []) tt (plain (λ κs. u8)) (λ κs. tt)

abbrev Words : Slot 2
Words = RefMutOf (1 ∷ []) tt (ArrayOf (plain (λ κs. u32)) (λ κs. tt) 16384) (λ κs. tt)

abbrev Taken : RattleType
Taken = result.the_row parts.the_row refusal.the_row

abbrev taken_laws : Laws Taken
taken_laws = result_laws parts.the_row refusal.the_row parts_laws refusal_laws

abbrev words_laws : Laws R
words_laws = array_laws u32 (of_field u32-field u32-laws refl (copy_shared u32-field u32-copy)) 16384

abbrev Answer : Lft → RattleType
Answer κ = result.the_row (sheet.the_row (record { mir = named 1; lft = κ })) refusal.the_row

abbrev answer_laws : (κ : Lft) → Laws (Answer κ)
answer_laws κ = let a : NamedLft = record { mir = named 1; lft = κ } in result_laws (sheet.the_row a) refusal.the_row (sheet_laws a) refusal_laws

-- a name of which the last value is said: that is what the lender ends as
rests : {M : Type 1} {𝓤 : Ura M} (𝓛 : Logic 𝓤) (γ : GName) (n last : List ℕ) → n ≡ last
    → ent 𝓤 (sem 𝓛 (fres γ (R.coded.code n))) (sem 𝓛 (follows_so R R γ none (λ _ _. ⊤) (λ z. z ≡ last)))
unfolding such_by follows_by
rests 𝓛 γ n last e =
    qed 𝓛 (‵ (fres γ (R.coded.code n)) ∷ []) ∵
    fpack ! ((s : (List ℕ → List ℕ) × List ℕ) × (List ℕ → ⊤) × (s.1 ≡ last))
    (λ s. follows_by (List ℕ) (List ℕ) R.coded.code R.coded.code γ none s.0.0 s.0.1) (((λ _. n), n), (λ _. tt), e) $ done !

pub of_input_spec : {M : Type 1} → statement M
of_input_spec 𝓤 𝓛 𝓜 𝓡 wired =
    let c = f.clauses 𝓛 𝓜.mem 𝓡.returns in let 𝓕 = framed 𝓤 𝓛.H 𝓜 (tables 𝓤 𝓛.H 𝓜 𝓡 𝓡.env) in
    proved 𝓛 f.ended stayed c 𝓜 𝓡 (Goes-dropped 𝓛 2 Bytes yes (λ κs x w. refl), (Goes-dropped 𝓛 2 Words no (λ κs x w. refl), tt))
    f.Key.name code.function (code.unfolded 𝓤 𝓛.H 𝓜 𝓡 wired)
    (λ κs. (shr_slice_vals, (mut_vals, tt))) (λ κs. (shr_slice_Tells (named 0) κs.0 u8, (mut_Tells (named 1) κs.1.0 R, tt)))
    (λ κs qs bounds a _ are.
    let file = a.0 in let r = a.1.0 in let κ = κs.1.0 in let q = qs.1.0 in let b = r.ref_ptr.0 in let o = r.ref_ptr.1 in
    let us = shr_slice_vals file in let vs = mut_vals r in
    let File = ‵ ((ShrSlice (named 0) κs.0 u8).own_val file us) in let Tok = ‵ (flft κs.0 qs.0) in
    let Ref = λ (κ' : Lft) (x : MutBor (List ℕ)). (MutRef (named 1) κ' R).own_val x vs in
    qed 𝓛 (((Tok ⊛ ‵ (flft κ q) ⊛ ‵ ftrue) ⊛ File ⊛ ‵ (Ref κ r) ⊛ ‵ ftrue) ∷ ‵ ftrue ∷ []) ∵
    split ! $ split ! $ move ! (1 ∷ []) $ split ! $ move ! (3 ∷ []) $ split ! $ move ! (1 ∷ []) $ split ! $ keep ! (0 ∷ 3 ∷ 2 ∷ 5 ∷ []) $
    enter ! _ _ _ _ _ $ alloc_all ! (λ l. pass_all ! refl ((tt, (tt, (record { fits = are.0.0.1.0 }, tt))), ((tt, tt), tt)) $
    -- [words; their token; the file; its token]
    sets ! (addr ! (through ! refl (stop !))) refl (tt, tt) $
    lft_new ! tt (λ α. move ! (1 ∷ 2 ∷ []) $
    use2 𝓛 (later (some (λ (δ : ℕ). ‵ (Ref (α ∷ []) (record r { ghost_name = δ })) ⊛ ‵ (LentAgain R κ (α ∷ []) q r.ghost_name b o δ r.now))))
    (lends_again 𝓛 R (named 1) κ (α ∷ []) q r.ghost_name b o (named 1) r.now) $ await ! tt $ pick ! (λ δ. split ! $
    -- [the loan; what the lender keeps; the token of α; the file; its token]
    let G = triple_of 𝓛 g.signature (g.spec 𝓛 𝓜.mem 𝓡.returns) in
    let z : G.Ghost = (((κs.0, (α ∷ [], tt)), (qs.0, (full_share, tt)), tt, (file, (record r { ghost_name = δ }, tt)), (us, (vs, tt))), tt) in
    nothing ! $ move ! (1 ∷ 0 ∷ []) $ join ! $ move ! (3 ∷ 0 ∷ []) $ join ! $
    nothing ! $ move ! (3 ∷ 0 ∷ []) $ join ! $ move ! (3 ∷ 0 ∷ []) $ join ! $ join ! $ nothing ! $ move ! (1 ∷ 0 ∷ []) $ use2 𝓛 (raw (G.pre z)) (id⊢ 𝓤 _) $
    calls_at ! 𝓕 G (take_input_met 𝓤 𝓛 𝓜 𝓡 (code.calls-sheets::input::take_input 𝓡.env wired)) z
    (and_then ! (get ! refl) (and_then ! (get ! refl) (no_more !))) (λ v.
    use1 𝓛 (later (some (λ (t : Result Parts Refusal). ((Tok ⊛ ‵ (flft (α ∷ []) full_share) ⊛ ‵ ftrue) ⊛ ‵ (Taken.own_val t (v ∷ []))) ⊛
    some (λ (ws : Unit {0} × (List ℕ × Unit {0})). ‵ (lasts g.ended z.0.0 z.0.3 ws) ⊛
    raw (fact 𝓤 (told_by t ≡ take_input_told file.now)) ⊛ raw (fact 𝓤 (ws.1.0 ≡ input_leaves file.now r.now)))))) (id⊢ 𝓤 _) $
    await ! tt $ pick ! (λ t. split ! $ split ! $ split ! $ move ! (1 ∷ []) $ split ! $ lft_end ! tt $
    move ! (3 ∷ []) $ peeks ! Taken (Is Taken) (shows 𝓛 Taken) t (v ∷ []) (λ is.
    lands_as ! refl refl ((taken_laws.lawful 𝓛).typed t (v ∷ []) is).0 $
    move ! (4 ∷ []) $ pick ! (λ ws. split ! $ move ! (1 ∷ []) $ split ! $ heard ! _ (λ told. heard ! _ (λ left.
    -- [words, as `take_input` left them; their token; ..; its answer; ..; the token of the file]
    let n = ws.1.0 in
    fsplit ! $ drop ! $ fsplit ! $ fsplit ! $ move ! (4 ∷ 7 ∷ 0 ∷ []) $ use3 𝓛 (later (‵ (Ref κ (record r { now = n })) ⊛ ‵ (flft κ q)))
    (comes_back 𝓛 R (named 1) κ (α ∷ []) q r.ghost_name b o δ r.now n) $ await ! tt $ split ! $
    sets ! (addr ! (through ! refl (stop !))) refl (tt, tt) $
    let s : Bor (List ℕ) = record { ref_ptr = (b, o); now = n } in
    fsplit ! $ feq_l ! (λ _. use2 𝓛 (later (‵ ((table.ShrRef erased κ R).own_val s) ⊛ ‵ (fres r.ghost_name (R.coded.code n)) ⊛ ‵ (flft κ q)))
    (ref_Share 𝓛 R b o r.ghost_name n words_laws.shr_laws κ q (Shares-less 𝓛 R [] κ (⊑_static κ) (words_laws.shares 𝓛))) $
    await ! tt $ split ! $ move ! (1 ∷ []) $ split ! $ move ! (2 ∷ []) $ feq_i ! (List Val) vs vs refl $ fjoin ! $
    -- [words, shared; what they are at last; their token; ..; the answer; ..; the token of the file]
    let G' = triple_of 𝓛 h.signature (h.spec 𝓛 𝓜.mem 𝓡.returns) in
    let z' : G'.Ghost = (((κ, tt), (q, tt), tt, (t, (s, tt)), (v ∷ [], (vs, tt))), (file.now, r)) in
    nothing ! $ move ! (1 ∷ 0 ∷ []) $ join ! $ move ! (5 ∷ 0 ∷ []) $ join ! $ nothing ! $ move ! (3 ∷ 0 ∷ []) $ join ! $ join ! $
    use0 𝓛 (raw (fact 𝓤 (s.ref_ptr ≡ r.ref_ptr))) (fact_i 𝓤 _ _ refl) $
    use0 𝓛 (raw (fact 𝓤 (n ≡ input_leaves file.now r.now))) (fact_i 𝓤 _ _ left) $ join ! $
    use0 𝓛 (raw (fact 𝓤 (told_by t ≡ take_input_told file.now))) (fact_i 𝓤 _ _ told) $ join ! $
    move ! (1 ∷ 0 ∷ []) $ use2 𝓛 (raw (G'.pre z')) (id⊢ 𝓤 _) $
    calls_at ! 𝓕 G' (of_taken_met 𝓤 𝓛 𝓜 𝓡 (code.calls-sheets::sheet::Sheet::of_taken 𝓡.env wired)) z'
    (and_then ! (get ! refl) (and_then ! (get ! refl) (no_more !))) (λ w.
    let O = Answer κ in
    let Listed = λ (x : Result Sheet Refusal). MatchResult x (Lists file.now) (λ why. input_told file.now ≡ refused why) in
    let Placed = λ (x : Result Sheet Refusal). IfOk x (Places file.now r) in
    use1 𝓛 (later (some (λ (x : Result Sheet Refusal). ((‵ (flft κ q) ⊛ ‵ ftrue) ⊛ ‵ (O.own_val x (w ∷ []))) ⊛
    some (λ (ws' : Unit {0} × (Unit {0} × Unit {0})). ‵ (lasts h.ended z'.0.0 z'.0.3 ws') ⊛
    raw (fact 𝓤 (Listed x)) ⊛ raw (fact 𝓤 (Placed x)))))) (id⊢ 𝓤 _) $
    await ! tt $ pick ! (λ x. split ! $ split ! $ move ! (1 ∷ []) $ peeks ! O (Is O) (shows 𝓛 O) x (w ∷ []) (λ is'.
    lands_as ! refl refl (((answer_laws κ).lawful 𝓛).typed x (w ∷ []) is').0 $
    move ! (2 ∷ []) $ pick ! (λ ws'. split ! $ move ! (1 ∷ []) $ split ! $ heard ! _ (λ lists. heard ! _ (λ places.
    -- [..; the answer; the token of words; what they are at last; ..; the token of the file]
    returns ! (look_at ! 0 refl) $ free_all ! refl $ keep ! (3 ∷ 1 ∷ 2 ∷ 7 ∷ []) $
    suffices ! _ (ends_at 𝓛 f.ended stayed c ((κs, qs, bounds, a, (us, (vs, tt))), tt) w x (tt, (tt, tt)) (tt, (tt, tt))) $
    use1 𝓛 (‵ (Leaves r (input_leaves file.now r.now))) (rests 𝓛 r.ghost_name n (input_leaves file.now r.now) left) $
    use0 𝓛 (raw (fact 𝓤 (Placed x))) (fact_i 𝓤 _ _ places) $ join ! $ use0 𝓛 (raw (fact 𝓤 (Listed x))) (fact_i 𝓤 _ _ lists) $ join ! $
    nothing ! $ nothing ! $ join ! $ nothing ! $ join ! $ move ! (0 ∷ 2 ∷ []) $ join ! $
    move ! (3 ∷ 2 ∷ []) $ join ! $ join ! $ done !)))))))))))))))))
