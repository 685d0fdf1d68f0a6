-- Histories that were lived: each call was run on the record that the call before left, and what it left is what its own promise permits.
use Rattle.std.specs.Prelude.{ℕ, List, [], ◌∷◌, ◌⊎◌, ◌≡◌}
use borrow.Fn.Kinds.{ParamKind, ResultKind, Out, Dens, res_t, ended_of}
use contract.Lifetimes.{Lfts}
use denote.Triple.Clauses.{AtExit}
use denote.Triple.Entry.{Args}
use Rattle.queues.specs.Steps.{load_of, read_of, vertical_of, ask_of}
use Rattle.queues.specs.declared.Queue.{Queue}
use Rattle.queues.specs.declared.Step.{Step}
use Rattle.queues.proofs.Thin.{lent_ended, lent_says}
use Rattle.queues.proofs.Queue.load.Kinds as load_kinds
use Rattle.queues.proofs.Queue.load.Reads as load_reads
use Rattle.queues.proofs.Queue.read.Kinds as read_kinds
use Rattle.queues.proofs.Queue.read.Reads as read_reads
use Rattle.queues.proofs.Queue.vertical_sync.Kinds as vertical_kinds
use Rattle.queues.proofs.Queue.vertical_sync.Reads as vertical_reads
use Rattle.queues.proofs.Queue.ask.Kinds as ask_kinds
use Rattle.queues.proofs.Queue.ask.Reads as ask_reads
use Rattle.queues.proofs.Queue.horizontal_sync.Kinds as horizontal_kinds
use Rattle.queues.proofs.Queue.horizontal_sync.Reads as horizontal_reads
use Rattle.queues.proofs.Queue.sync_ends.Kinds as ends_kinds
use Rattle.queues.proofs.Queue.sync_ends.Reads as ends_reads
use Rattle.histories.specs.Calls.{QueueCall, load, read, vertical, ask, horizontal, ends, Answered}

-- A step by value: some exit with which the promise permits it.
abbrev pub Stepped : (ps : List (ParamKind 0)) (r : ResultKind 0) → Out 0 ps r → Dens tt ps → (res_t r tt).Denot → Type 0
Stepped ps r post a x = (exit : AtExit (ended_of 0 ps r) tt) × post tt a x exit

-- The same on a record that is lent, by what such a call promises.
pub record Lent (means : Queue → ℕ → Step) (q : Queue) (n : ℕ) (s : Step) : Type 0 where
  pub lifetimes : Lfts 1
  pub arguments : Args lent_ended.signature lifetimes
  pub exit : AtExit lent_ended lifetimes
  pub queue_was : arguments.0.now ≡ q
  pub number_was : arguments.1.0 ≡ n
  pub queue_is : exit.0.now ≡ s.queue
  pub promise : lent_says means lifetimes arguments s.reply exit

abbrev pub Lived : Queue → QueueCall → Step → Type 0
Lived q (load w) s = Stepped load_kinds.ps load_kinds.r load_reads.Post (q, (w, tt)) s ⊎ Lent load_of q w s
Lived q (read control) s = Stepped read_kinds.ps read_kinds.r read_reads.Post (q, (control, tt)) s ⊎ Lent read_of q control s
Lived q (vertical raster) s =
    Stepped vertical_kinds.ps vertical_kinds.r vertical_reads.Post (q, (raster, tt)) s ⊎ Lent vertical_of q raster s
Lived q (ask words) s = Stepped ask_kinds.ps ask_kinds.r ask_reads.Post (q, (words, tt)) s ⊎ Lent ask_of q words s
Lived q (horizontal g y) s = Stepped horizontal_kinds.ps horizontal_kinds.r horizontal_reads.Post (q, (g, (y, tt))) s
Lived q (ends g y) s = Stepped ends_kinds.ps ends_kinds.r ends_reads.Post (q, (g, (y, tt))) s

-- A call that was run, with the step it left; and a history of such, each on the record that the one before left.
pub record LivedCall : Type 0 where
  pub call : QueueCall
  pub step : Step

abbrev pub left_by : Queue → List LivedCall → Queue
left_by q [] = q
left_by q (x ∷ xs) = x.step.queue

abbrev pub Chain : Queue → List LivedCall → Type 0
Chain q [] = Unit {0}
Chain q (x ∷ xs) = Lived (left_by q xs) x.call x.step × Chain q xs

-- What was called, and what was answered.
abbrev pub calls_of : List LivedCall → List QueueCall
calls_of [] = []
calls_of (x ∷ xs) = x.call ∷ calls_of xs

abbrev pub heard_of : List LivedCall → List Answered
heard_of [] = []
heard_of (x ∷ xs) = record { call = x.call; reply = x.step.reply } ∷ heard_of xs
