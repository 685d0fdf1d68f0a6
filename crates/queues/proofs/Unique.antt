-- For each public call, any two answers that its contract permits are the same, and any two records that it leaves where one was lent.
use Prim.Native.Nat.{ℕ}
use mathlib.Core.Path.{refl, sym, ◌∙◌}
use Rattle.buffers.proofs.Coincide.{OneAnswer, OneLent}
use Rattle.queues.specs.Steps.{load_of, read_of, vertical_of, ask_of}
use Rattle.queues.specs.declared.Queue.{Queue}
use Rattle.queues.specs.declared.Step.{Step}
use Rattle.queues.proofs.Thin.{lent_ended, lent_says, lent_clauses}
use Rattle.queues.proofs.Queue.fresh.Kinds as fresh_kinds
use Rattle.queues.proofs.Queue.fresh.Reads as fresh_reads
use Rattle.queues.proofs.Queue.load.Kinds as load_by_value_kinds
use Rattle.queues.proofs.Queue.load.Reads as load_by_value_reads
use Rattle.queues.proofs.Queue.read.Kinds as read_by_value_kinds
use Rattle.queues.proofs.Queue.read.Reads as read_by_value_reads
use Rattle.queues.proofs.Queue.vertical_sync.Kinds as vertical_sync_by_value_kinds
use Rattle.queues.proofs.Queue.vertical_sync.Reads as vertical_sync_by_value_reads
use Rattle.queues.proofs.Queue.ask.Kinds as ask_by_value_kinds
use Rattle.queues.proofs.Queue.ask.Reads as ask_by_value_reads
use Rattle.queues.proofs.Queue.horizontal_sync.Kinds as horizontal_sync_kinds
use Rattle.queues.proofs.Queue.horizontal_sync.Reads as horizontal_sync_reads
use Rattle.queues.proofs.Queue.sync_ends.Kinds as sync_ends_kinds
use Rattle.queues.proofs.Queue.sync_ends.Reads as sync_ends_reads
use Rattle.queues.proofs.syncs.cursor_ask.Kinds as cursor_ask_kinds
use Rattle.queues.proofs.syncs.cursor_ask.Reads as cursor_ask_reads
use Rattle.queues.proofs.syncs.video_ask.Kinds as video_ask_kinds
use Rattle.queues.proofs.syncs.video_ask.Reads as video_ask_reads
use Rattle.queues.proofs.syncs.sync_ask.Kinds as sync_ask_kinds
use Rattle.queues.proofs.syncs.sync_ask.Reads as sync_ask_reads
use Rattle.queues.specs.contracts.lent.load as load
use Rattle.queues.specs.contracts.lent.read as read
use Rattle.queues.specs.contracts.lent.vertical_sync as vertical_sync
use Rattle.queues.specs.contracts.lent.ask as ask

pub one_fresh : OneAnswer 0 fresh_kinds.ps fresh_kinds.r fresh_reads.Post
one_fresh κs a x y s t p q = p ∙ sym q

pub one_load_by_value : OneAnswer 0 load_by_value_kinds.ps load_by_value_kinds.r load_by_value_reads.Post
one_load_by_value κs a x y s t p q = p ∙ sym q

pub one_read_by_value : OneAnswer 0 read_by_value_kinds.ps read_by_value_kinds.r read_by_value_reads.Post
one_read_by_value κs a x y s t p q = p ∙ sym q

pub one_vertical_sync_by_value : OneAnswer 0 vertical_sync_by_value_kinds.ps vertical_sync_by_value_kinds.r vertical_sync_by_value_reads.Post
one_vertical_sync_by_value κs a x y s t p q = p ∙ sym q

pub one_ask_by_value : OneAnswer 0 ask_by_value_kinds.ps ask_by_value_kinds.r ask_by_value_reads.Post
one_ask_by_value κs a x y s t p q = p ∙ sym q

pub one_horizontal_sync : OneAnswer 0 horizontal_sync_kinds.ps horizontal_sync_kinds.r horizontal_sync_reads.Post
one_horizontal_sync κs a x y s t p q = p ∙ sym q

pub one_sync_ends : OneAnswer 0 sync_ends_kinds.ps sync_ends_kinds.r sync_ends_reads.Post
one_sync_ends κs a x y s t p q = p ∙ sym q

pub one_cursor_ask : OneAnswer 0 cursor_ask_kinds.ps cursor_ask_kinds.r cursor_ask_reads.Post
one_cursor_ask κs a x y s t p q = p ∙ sym q

pub one_video_ask : OneAnswer 0 video_ask_kinds.ps video_ask_kinds.r video_ask_reads.Post
one_video_ask κs a x y s t p q = p ∙ sym q

pub one_sync_ask : OneAnswer 0 sync_ask_kinds.ps sync_ask_kinds.r sync_ask_reads.Post
one_sync_ask κs a x y s t p q = p ∙ sym q

-- Whatever a step means, the promise of the function that runs it on a lent queue leaves one reply and one record.
pub one_lent : (means : Queue → ℕ → Step) → OneLent lent_ended (λ M 𝓤 𝓛 mem run. lent_clauses means 𝓤) (λ κs s. s.0.now)
one_lent means = record {
  says = lent_says means;
  nothing_else = λ 𝓛 mem run κs a g r s. refl;
  one = λ κs a x y s t p q. (p.1 ∙ sym q.1, p.0 ∙ sym q.0);
}

pub one_queue_load : OneLent load.ended (λ M 𝓤 𝓛. load.clauses 𝓛) (λ κs s. s.0.now)
one_queue_load = one_lent load_of

pub one_queue_read : OneLent read.ended (λ M 𝓤 𝓛. read.clauses 𝓛) (λ κs s. s.0.now)
one_queue_read = one_lent read_of

pub one_queue_vertical_sync : OneLent vertical_sync.ended (λ M 𝓤 𝓛. vertical_sync.clauses 𝓛) (λ κs s. s.0.now)
one_queue_vertical_sync = one_lent vertical_of

pub one_queue_ask : OneLent ask.ended (λ M 𝓤 𝓛. ask.clauses 𝓛) (λ κs s. s.0.now)
one_queue_ask = one_lent ask_of
