-- Calls on a queue: what is seen of a run, by value or lent, and what holds of every run that a lent call's promise permits.
use Rattle.std.specs.Prelude.{ℕ, ◌≡◌}
use seplogic.Ra.Ura.{Ura}
use base.Logic.{SProp}
use contract.Lifetimes.{Lfts}
use contract.Monad.{Fun, fact}
use denote.Triple.Clauses.{Clauses, AtExit}
use denote.Triple.Entry.{Args, Res}
use types.Logic.{Logic}
use prog.Memory.{Memory}
use prog.Routine.{Routine}
use Rattle.refusals.specs.Table.{Told}
use Rattle.queues.specs.Steps.{reply_says}
use Rattle.queues.specs.declared.Queue.{Queue}
use Rattle.queues.specs.declared.Step.{Step}
use Rattle.queues.proofs.Thin.{lent_ended, lent_says}
use Rattle.queues.proofs.Queue.load.Kinds as load_kinds
use Rattle.queues.proofs.Queue.load.Reads as load_reads
use Rattle.queues.proofs.Queue.read.Kinds as read_kinds
use Rattle.queues.proofs.Queue.read.Reads as read_reads
use Rattle.claims.specs.Calls.{Call, call}

-- The record before the call and after it, the call's number, and what the reply tells.
pub record QueueRun : Type 0 where
  pub before : Queue
  pub number : ℕ
  pub answer : Told ℕ
  pub after : Queue

-- By value.
abbrev pub queue_load : Call
queue_load = call 0 load_kinds.ps load_kinds.r load_reads.Post QueueRun
    λ κs a x s. record { before = a.0; number = a.1.0; answer = reply_says x.reply; after = x.queue }

abbrev pub queue_read : Call
queue_read = call 0 read_kinds.ps read_kinds.r read_reads.Post QueueRun
    λ κs a x s. record { before = a.0; number = a.1.0; answer = reply_says x.reply; after = x.queue }

-- A call's own clause, in every model, says of a lent queue just what a step means.
abbrev pub Promises : (Queue → ℕ → Step)
    → ((M : Type 1) (𝓤 : Ura M) (𝓛 : Logic 𝓤) → (Memory → SProp 𝓤) → (Routine → Fun 𝓤) → Clauses 𝓤 lent_ended) → Type 2
Promises means clauses = (M : Type 1) (𝓤 : Ura M) (𝓛 : Logic 𝓤) (mem : Memory → SProp 𝓤) (run : Routine → Fun 𝓤)
    (κs : Lfts 1) (a : Args lent_ended.signature κs) (g : (clauses M 𝓤 𝓛 mem run κs a).ghost) (r : Res lent_ended.signature κs) (s : AtExit lent_ended κs)
    → (clauses M 𝓤 𝓛 mem run κs a).ensures g r s ≡ fact 𝓤 (lent_says means κs a r s)

-- What holds of everything that can be seen of such a call.
abbrev pub EveryLent : (Queue → ℕ → Step) → (QueueRun → Type 0) → Type 0
EveryLent means holds = (κs : Lfts 1) (a : Args lent_ended.signature κs) (r : Res lent_ended.signature κs) (s : AtExit lent_ended κs)
    → lent_says means κs a r s → holds (record { before = a.0.now; number = a.1.0; answer = reply_says r; after = s.0.now })
