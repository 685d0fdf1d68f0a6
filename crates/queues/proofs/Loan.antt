-- A queue in memory is lent to a call, and after it lies there again as the call leaves it: the loan as a rule for calls, whatever the call means.
-- A lifetime is made for the call alone. The memory is lent for it, the call tells the queue's last value, and the memory comes back at the lifetime's end.
use mathlib.Core.Path.{◌≡◌, refl, ap, sym, subst}
use Prim.Native.Nat.{ℕ, ◌<◌, ◌^◌}
use mathlib.Core.List.{[], ◌∷◌, List}
use seplogic.Ra.Ura.{Ura}
use base.Fraction.{full_share}
use mir.Syntax.{Callee, Place, Opd as Operand, named, w32, call}
use mir.Val.{Val, vint, vptr}
use base.Logic.{ent, sep, id⊢}
use base.Fml.{GName, Fml, ftrue, fsep, flft, fres, fbor, flent, fat, froom}
use prog.Wp.{Env, Calls, Loops}
use types.Logic.{Logic, sem}
use contract.Monad.{fact}
use types.Kit.{Item, ‵, raw, ◌⊛◌, some, later, Post, Goal, runs, settles, Soaks, Seq, ◌$◌, ◌∵◌, !, qed, move, drop, use1, use2, use3}
use types.Kit.{rewrite, split, join, pick, fsplit, fjoin, fpick, fpack, frame, await, done}
use types.Run.{Opds}
use types.SemTy.{Body as Held}
use types.Tokens.{lft_new, lft_end}
use sound.WpLaws.{FmC}
use denote.Laws.{Is, shows}
use denote.Memory.{cell_at, mem, part_of}
use denote.Plain.{uint_Makes}
use denote.Builtin.{u32}
use denote.Ref.{MutBor, MutRef}
use denote.Lend.{lends_ref, ref_back}
use denote.Steps.{owned, facts, heard, nothing, only}
use denote.Struct.Laws as LL
use denote.Triple.Statement.{Triple}
use denote.Triple.Call.{calls_at_last}
use Rattle.queues.specs.declared.Queue.{Queue}
use Rattle.queues.specs.declared.Reply.{Reply}
use Rattle.queues.specs.declared.Step.{Step}
use Rattle.queues.specs.contracts.Queue as Q
use Rattle.queues.proofs.Queue.TheLaws as Q'
use Rattle.queues.specs.contracts.Reply as R
use Rattle.queues.proofs.Reply.TheLaws as R'
use Rattle.queues.proofs.Thin.{Lent, queue_val, queue_vals, reply_val, reply_vals}

-- The queue in the local at l.
abbrev pub lies : Queue → ℕ → Fml
lies h l = (mem Q.the_row).own_at h l 0

-- What the lender keeps while it is lent for the lifetime α under the name γ.
abbrev away : ℕ → ℕ → GName → Fml
away l α γ = flent (α ∷ []) (Held (mem Q.the_row) l 0 γ)

-- What the call leaves of the borrow: its last value under the name γ, and the borrow itself, closed.
abbrev left_by : ℕ → GName → ℕ → Queue → Fml
left_by α γ l h = fsep (fres γ ((Q.the_row).coded.code h)) (fbor (α ∷ []) (Held (mem Q.the_row) l 0 γ))

module _ {M : Type 1} {𝓤 : Ura M} (𝓛 : Logic 𝓤) where
  -- A local's cell is a queue in memory, and a queue in memory is room for another.
  pub cell_lies : (h : Queue) (l : ℕ) → Is Q.the_row h (queue_vals h)
      → ent 𝓤 (sem 𝓛 (fat full_share Q'.mir l 0 (queue_val h))) (sem 𝓛 (lies h l))
  unfolding part_of
  cell_lies h l is =
      qed 𝓛 (‵ (fat full_share Q'.mir l 0 (queue_val h)) ∷ []) ∵
      use1 𝓛 (‵ (cell_at full_share (Q.the_row).mir (queue_vals h) l 0)) (𝓛.laws.at_raw full_share Q'.mir l 0 (queue_val h)) $
      owned ! Q.the_row (Is Q.the_row) (LL.makes Q.the_type Q'.the_plain 𝓛) h (queue_vals h) is $ move ! (1 ∷ 0 ∷ []) $ fjoin ! $
      fpack ! (List Val) (λ vs. fsep (cell_at full_share (Q.the_row).mir vs l 0) ((Q.the_row).own_val h vs)) (queue_vals h) $ done !

  pub lies_room : (h : Queue) (l : ℕ) → ent 𝓤 (sem 𝓛 (lies h l)) (sem 𝓛 (froom Q'.mir l 0))
  unfolding part_of
  lies_room h l =
      qed 𝓛 (‵ (lies h l) ∷ []) ∵ fpick ! (λ vs. fsplit ! $ move ! (1 ∷ []) $ facts ! Q.the_row (Is Q.the_row) (shows 𝓛 Q.the_row) h vs (λ is.
      rewrite ! 0 (λ (us : List Val). ‵ (cell_at full_share (Q.the_row).mir us l 0)) (LL.tells Q.the_type Q'.the_laws h vs is) refl $
      use1 𝓛 (‵ (fat full_share Q'.mir l 0 (queue_val h))) (𝓛.laws.raw_at full_share Q'.mir l 0 _) $
      use1 𝓛 (‵ (froom Q'.mir l 0)) (𝓛.laws.at_room Q'.mir l 0 _) $ done !))

-- What the call is handed, under the lifetime α and the name γ.
module _ {M : Type 1} {𝓤 : Ura M} (𝓛 : Logic 𝓤) (means : Queue → ℕ → Step) (h : Queue) (l n α : ℕ) (γ : GName) where
  open 𝓛 use {A}

  abbrev lent : MutBor Queue
  lent = record { ref_ptr = (l, 0); ghost_name = γ; now = h }

  abbrev handed : (Lent means 𝓤 𝓛).Ghost
  handed = (((α ∷ [], tt), (full_share, tt), tt, (lent, (n, tt)), (vptr l 0 ∷ [], (vint w32 n ∷ [], tt))), tt)

  hands : n < 2 ^ 32
      → ent 𝓤 (sep 𝓤 (A.lft (α ∷ []) full_share) (sem 𝓛 ((MutRef (named 0) (α ∷ []) Q.the_row).own_val lent (vptr l 0 ∷ []))))
      ((Lent means 𝓤 𝓛).pre handed)
  hands fits =
      qed 𝓛 (‵ (flft (α ∷ []) full_share) ∷ ‵ ((MutRef (named 0) (α ∷ []) Q.the_row).own_val lent (vptr l 0 ∷ [])) ∷ []) ∵
      nothing ! $ owned ! u32 (Is u32) (uint_Makes 𝓛 w32) n _ (refl, fits) $ fjoin ! $ move ! (2 ∷ 0 ∷ []) $ fjoin ! $
      nothing ! $ move ! (2 ∷ 0 ∷ []) $ join ! $ join ! $ frame ! $ done !

module _ {M : Type 1} {𝓤 : Ura M} {𝓛 : Logic 𝓤} {K : Type 0} {Γ : List (Item 𝓤)}
    (means : Queue → ℕ → Step) (h : Queue) (l n : ℕ) where
  open 𝓛 use {H}

  module _ {G : Goal 𝓤 H} where
    lends : K → Soaks G → n < 2 ^ 32
        → ((α : ℕ) (γ : GName) → Seq K 𝓛 (raw ((Lent means 𝓤 𝓛).pre (handed 𝓛 means h l n α γ)) ∷ ‵ (away l α γ) ∷ Γ) G)
        → Seq K 𝓛 (‵ (lies h l) ∷ Γ) G
    lends t z fits k =
        lft_new t z (λ α. move t (1 ∷ []) $
        use1 𝓛 (later (some (λ (γ : GName). ‵ ((MutRef (named 0) (α ∷ []) Q.the_row).own_val (lent 𝓛 means h l n α γ) (vptr l 0 ∷ [])) ⊛
        ‵ (away l α γ)))) (lends_ref 𝓛 Q.the_row (named 0) (α ∷ []) h l 0) $ await t z $ pick t (λ γ.
        split t $ move t (2 ∷ 0 ∷ []) $
        use2 𝓛 (raw ((Lent means 𝓤 𝓛).pre (handed 𝓛 means h l n α γ))) (hands 𝓛 means h l n α γ fits) $ k α γ))

    takes_back : K → Soaks G → (α : ℕ) (γ : GName) (v : Val)
        → (Is R.the_row (means h n).reply (v ∷ []) → Seq K 𝓛 (‵ (lies (means h n).queue l) ∷ Γ) G)
        → Seq K 𝓛 (raw ((Lent means 𝓤 𝓛).post (handed 𝓛 means h l n α γ) v) ∷ ‵ (away l α γ) ∷ Γ) G
    takes_back t z α γ v k =
        use1 𝓛 (later (some (λ (r : Reply). ((‵ (flft (α ∷ []) full_share) ⊛ ‵ ftrue) ⊛ ‵ ((R.the_row).own_val r (v ∷ []))) ⊛
        some (λ (ws : Queue × (Unit {0} × Unit {0})). ‵ (fsep (left_by α γ l ws.0) (fsep ftrue ftrue)) ⊛
        raw (fact 𝓤 ((ws.0 ≡ (means h n).queue) × (r ≡ (means h n).reply))))))) (id⊢ 𝓤 _) $ await t z $ pick t (λ r.
        split t $ move t (1 ∷ []) $ pick t (λ ws. split t $ move t (1 ∷ []) $ heard t ((ws.0 ≡ (means h n).queue) × (r ≡ (means h n).reply)) (λ e.
        fsplit t $ move t (1 ∷ []) $ drop t $ fsplit t $ move t (1 ∷ []) $ drop t $
        rewrite t 0 (λ (u : Queue). ‵ (fres γ ((Q.the_row).coded.code u))) e.0 refl $
        move t (1 ∷ []) $ split t $ split t $ lft_end t z $ move t (0 ∷ 4 ∷ 3 ∷ []) $
        use3 𝓛 (later (‵ (lies (means h n).queue l))) (ref_back 𝓛 Q.the_row (α ∷ []) γ (means h n).queue l 0) $ await t z $
        move t (1 ∷ []) $ drop t $ move t (1 ∷ []) $ facts t R.the_row (Is R.the_row) (shows 𝓛 R.the_row) r (v ∷ []) (λ is.
        k (subst (λ (u : Reply). Is R.the_row u (v ∷ [])) e.1 is)))))

  -- the machine value of the answer is written out
  spelled : (G : Val → Goal 𝓤 H) (v : Val)
      → (Is R.the_row (means h n).reply (reply_vals (means h n).reply) → Seq K 𝓛 (‵ (lies (means h n).queue l) ∷ Γ) (G (reply_val (means h n).reply)))
      → Is R.the_row (means h n).reply (v ∷ []) → Seq K 𝓛 (‵ (lies (means h n).queue l) ∷ Γ) (G v)
  spelled G v k is =
      subst (λ (u : Val). Seq K 𝓛 (‵ (lies (means h n).queue l) ∷ Γ) (G u)) (sym (ap only (LL.tells R.the_type R'.the_laws (means h n).reply _ is)))
      (k (subst (Is R.the_row (means h n).reply) (LL.tells R.the_type R'.the_laws (means h n).reply _ is) is))

  -- The rule, for a call that is the last of its part: the operands are read with two entries before Γ, and the call's answer is what the step answers.
  module _ {E : Env 𝓤 H} {C : Calls 𝓤 H} {Λ : Loops 𝓤 H} {q : Post 𝓤 H} {f : Callee} {xs : List Operand} {d : Place} where
    pub calls_lent_last : K → FmC 𝓤 H 𝓛.laws C → Triple 𝓤 (C f) (Lent means 𝓤 𝓛) → n < 2 ^ 32
        → ((i j : Item 𝓤) → Opds K 𝓛 (i ∷ j ∷ Γ) E xs (vptr l 0 ∷ vint w32 n ∷ []))
        → (Is R.the_row (means h n).reply (reply_vals (means h n).reply)
        → Seq K 𝓛 (‵ (lies (means h n).queue l) ∷ Γ) (settles E d (reply_val (means h n).reply) q))
        → Seq K 𝓛 (‵ (lies h l) ∷ Γ) (runs C Λ E (call f xs d) q)
    calls_lent_last t fm known fits os k =
        lends t tt fits (λ α γ. calls_at_last t fm (Lent means 𝓤 𝓛) known (handed 𝓛 means h l n α γ) (os _ _) (λ v.
        takes_back t tt α γ v (spelled (λ u. settles E d u q) v k)))
