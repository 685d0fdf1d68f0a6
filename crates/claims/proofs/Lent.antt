-- Demand 1 for the calls on a queue: 16 and 17 exactly when their rule says; refused, a call leaves the record that it went on with.
use Prim.Native.Nat.{ℕ}
use mathlib.Core.Path.{◌≡◌, refl, ◌∙◌, ap}
use Rattle.queues.specs.Queue.{fitted_of, front_byte}
use Rattle.queues.specs.Steps.{load_of, read_of, vertical_of, ask_of, load_table, read_table, reply_says, with_word, without_byte}
use Rattle.queues.specs.declared.Queue.{Queue}
use Rattle.queues.specs.declared.Reply.{Reply}
use Rattle.queues.specs.declared.Step.{Step}
use Rattle.queues.proofs.Told.{load_told_holds, read_told_holds, load_left, read_left}
use Rattle.vombelishi.specs.contracts.queued.vom_queue_load as vom_queue_load
use Rattle.vombelishi.specs.contracts.queued.vom_queue_read as vom_queue_read
use Rattle.vombelishi.specs.contracts.queued.vom_queue_vertical_sync as vom_queue_vertical_sync
use Rattle.vombelishi.specs.contracts.queued.vom_queue_ask as vom_queue_ask
use Rattle.claims.specs.Calls.{Every, ByTable, Kept}
use Rattle.claims.specs.Lent.{QueueRun, queue_load, queue_read, Promises, EveryLent}
use Rattle.claims.proofs.Tables.{by_table, kept}

-- Of a run of a load, and of a read.
abbrev LoadRefuses : QueueRun → Type 0
LoadRefuses run = ByTable run.answer (load_table run.before) 0 × Kept run.answer (fitted_of run.before) run.after

abbrev ReadRefuses : QueueRun → Type 0
ReadRefuses run =
    ByTable run.answer (read_table run.before) (front_byte (fitted_of run.before)) × Kept run.answer (fitted_of run.before) run.after

module _ (q after : Queue) (n : ℕ) (r : Reply) where
  load_refuses : after ≡ (load_of q n).queue → r ≡ (load_of q n).reply
      → LoadRefuses (record { before = q; number = n; answer = reply_says r; after = after })
  load_refuses left said =
      let told = ap reply_says said ∙ load_told_holds q n in
      (by_table 0 (load_table q) told, kept (with_word (fitted_of q) n) told (left ∙ load_left q n))

  read_refuses : after ≡ (read_of q n).queue → r ≡ (read_of q n).reply
      → ReadRefuses (record { before = q; number = n; answer = reply_says r; after = after })
  read_refuses left said =
      let told = ap reply_says said ∙ read_told_holds q n in
      (by_table (front_byte (fitted_of q)) (read_table q) told, kept (without_byte (fitted_of q) n) told (left ∙ read_left q n))

abbrev queue_of : Step → Queue
queue_of s = s.queue

abbrev reply_of : Step → Reply
reply_of s = s.reply

-- By value.
pub queue_load_refuses : Every queue_load LoadRefuses
queue_load_refuses κs a x s p = load_refuses a.0 x.queue a.1.0 x.reply (ap queue_of p) (ap reply_of p)

pub queue_read_refuses : Every queue_read ReadRefuses
queue_read_refuses κs a x s p = read_refuses a.0 x.queue a.1.0 x.reply (ap queue_of p) (ap reply_of p)

-- Lent: the functions of `queues`, and the calls for C, whose promises are the same.
pub lent_load_refuses : EveryLent load_of LoadRefuses
lent_load_refuses κs a r s p = load_refuses _ _ _ r p.0 p.1

pub lent_read_refuses : EveryLent read_of ReadRefuses
lent_read_refuses κs a r s p = read_refuses _ _ _ r p.0 p.1

pub vom_queue_load_promises : Promises load_of (λ M 𝓤 𝓛. vom_queue_load.clauses 𝓛)
vom_queue_load_promises M 𝓤 𝓛 mem run κs a g r s = refl

pub vom_queue_read_promises : Promises read_of (λ M 𝓤 𝓛. vom_queue_read.clauses 𝓛)
vom_queue_read_promises M 𝓤 𝓛 mem run κs a g r s = refl

pub vom_queue_vertical_sync_promises : Promises vertical_of (λ M 𝓤 𝓛. vom_queue_vertical_sync.clauses 𝓛)
vom_queue_vertical_sync_promises M 𝓤 𝓛 mem run κs a g r s = refl

pub vom_queue_ask_promises : Promises ask_of (λ M 𝓤 𝓛. vom_queue_ask.clauses 𝓛)
vom_queue_ask_promises M 𝓤 𝓛 mem run κs a g r s = refl
