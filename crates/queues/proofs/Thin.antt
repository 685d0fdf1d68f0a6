-- A function over a lent queue, whatever the step that it runs means: its contract, and the machine values of the records that it is handed and answers.
-- No field of a queue or of a reply is named: their machine values are those of the structs' laws.
use mathlib.Core.Path.{◌≡◌}
use Prim.Native.Nat.{ℕ}
use mathlib.Core.List.{[], ◌∷◌, List}
use seplogic.Ra.Ura.{Ura}
use lib.Dec.{T}
use mir.Val.{Val, WT, has_ty}
use base.Logic.{emp}
use types.Logic.{Logic}
use contract.Lifetimes.{Lfts}
use contract.Monad.{fact}
use denote.Laws.{Is}
use denote.Builtin.{u32, RefMutOf}
use denote.Signature.{plain}
use denote.Struct.Laws as LL
use denote.Exit.{yes}
use denote.Triple.Statement.{Contract, Triple}
use contract.Running.{Running}
use prog.Model.{Model}
use prog.Wired.{Wired}
use denote.Triple.Entry.{Args, Res}
use denote.Triple.Spec.{triple_of}
use denote.Triple.Clauses.{AtExit, Clauses, Ended, closing}
use Rattle.queues.specs.declared.Queue.{Queue}
use Rattle.queues.specs.declared.Reply.{Reply}
use Rattle.queues.specs.declared.Step.{Step}
use Rattle.queues.specs.contracts.Queue as Q
use Rattle.queues.proofs.Queue.TheLaws as Q'
use Rattle.queues.specs.contracts.Reply as R
use Rattle.queues.specs.Steps.{load_of, read_of, vertical_of, ask_of}
use Rattle.queues.proofs.lent.load.Symbol as load
use Rattle.queues.proofs.lent.load.Met as load_met
use Rattle.queues.proofs.lent.read.Symbol as read
use Rattle.queues.proofs.lent.read.Met as read_met
use Rattle.queues.proofs.lent.vertical_sync.Symbol as vertical_sync
use Rattle.queues.proofs.lent.vertical_sync.Met as vertical_sync_met
use Rattle.queues.proofs.lent.ask.Symbol as ask
use Rattle.queues.proofs.lent.ask.Met as ask_met
use Rattle.queues.proofs.Reply.TheLaws as R'

-- The contract of the lent function.
abbrev pub lent_ended : Ended
lent_ended = record {
  signature = record {
    lifetimes = 1;
    outlives = [];
    params = RefMutOf (0 ∷ []) tt (plain (λ _. Q.the_row)) (λ _. tt) ∷ plain (λ _. u32) ∷ [];
    result = plain (λ _. R.the_row);
  };
  kept = (yes, (yes, tt));
}

-- What a lent function promises: the queue holds at the exit what the step means of what it held at the entry, and so is the reply.
abbrev pub lent_says : (Queue → ℕ → Step) → (κs : Lfts 1) → Args lent_ended.signature κs → Res lent_ended.signature κs → AtExit lent_ended κs → Type 0
lent_says means κs a r s = (s.0.now ≡ (means a.0.now a.1.0).queue) × (r ≡ (means a.0.now a.1.0).reply)

module _ (means : Queue → ℕ → Step) {M : Type 1} (𝓤 : Ura M) where
  abbrev pub lent_clauses : Clauses 𝓤 lent_ended
  lent_clauses κs a = record {
    ghost = Unit {0};
    requires = λ _. emp 𝓤;
    ensures = λ _ r s. fact 𝓤 (lent_says means κs a r s);
  }

  module _ (𝓛 : Logic 𝓤) where
    abbrev pub Lent : Contract 𝓤
    Lent = triple_of 𝓛 lent_ended.signature (closing 𝓛 lent_ended lent_clauses)

abbrev pub queue_val : Queue → Val
queue_val = LL.val Q.the_type Q'.the_laws

abbrev pub queue_vals : Queue → List Val
queue_vals = LL.vals Q.the_type Q'.the_laws

abbrev pub reply_val : Reply → Val
reply_val = LL.val R.the_type R'.the_laws

abbrev pub reply_vals : Reply → List Val
reply_vals = LL.vals R.the_type R'.the_laws

-- A queue's machine value, and a reply's, has the struct's MIR type.
module _ {M : Type 1} {𝓤 : Ura M} (𝓛 : Logic 𝓤) where
  pub queue_typed : (h : Queue) → Is Q.the_row h (queue_vals h) → T (has_ty Q'.mir (queue_val h)) × WT (queue_val h)
  queue_typed h is = ((LL.lawful Q.the_type Q'.the_laws 𝓛).typed h (queue_vals h) is).0

  pub reply_typed : (r : Reply) → Is R.the_row r (reply_vals r) → T (has_ty R'.mir (reply_val r)) × WT (reply_val r)
  reply_typed r is = ((LL.lawful R.the_type R'.the_laws 𝓛).typed r (reply_vals r) is).0

-- Each function on a lent queue, in every model and wherever its code runs, meets the contract of a lent function of its own meaning.
pub record ThinMeets (M : Type 1) : Type 2 where
  pub of_load :
      (𝓤 : Ura M) (𝓛 : Logic 𝓤) (𝓜 : Model 𝓤 𝓛.H) (𝓡 : Running 𝓤 𝓛.H 𝓜) → Wired 𝓡.env load.code
      → Triple 𝓤 (𝓡.run (𝓡.env load.name)) (Lent load_of 𝓤 𝓛)
  pub of_read :
      (𝓤 : Ura M) (𝓛 : Logic 𝓤) (𝓜 : Model 𝓤 𝓛.H) (𝓡 : Running 𝓤 𝓛.H 𝓜) → Wired 𝓡.env read.code
      → Triple 𝓤 (𝓡.run (𝓡.env read.name)) (Lent read_of 𝓤 𝓛)
  pub of_vertical_sync :
      (𝓤 : Ura M) (𝓛 : Logic 𝓤) (𝓜 : Model 𝓤 𝓛.H) (𝓡 : Running 𝓤 𝓛.H 𝓜) → Wired 𝓡.env vertical_sync.code
      → Triple 𝓤 (𝓡.run (𝓡.env vertical_sync.name)) (Lent vertical_of 𝓤 𝓛)
  pub of_ask :
      (𝓤 : Ura M) (𝓛 : Logic 𝓤) (𝓜 : Model 𝓤 𝓛.H) (𝓡 : Running 𝓤 𝓛.H 𝓜) → Wired 𝓡.env ask.code
      → Triple 𝓤 (𝓡.run (𝓡.env ask.name)) (Lent ask_of 𝓤 𝓛)

pub thin_meets : {M : Type 1} → ThinMeets M
thin_meets = record { of_load = load_met.met; of_read = read_met.met; of_vertical_sync = vertical_sync_met.met; of_ask = ask_met.met }
