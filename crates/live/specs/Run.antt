-- The live run: one tick of the bench and the queue, and as many as are asked for.
use Rattle.std.specs.Prelude.{ℕ, zero, suc, List}
use Rattle.queues.specs.declared.Queue.{Queue}
use Rattle.queues.specs.declared.Reply.{Reply}
use Rattle.queues.specs.declared.Step.{Step}
use Rattle.live.specs.Bench.{called, call_of, next_of, told_of}
use Rattle.live.specs.declared.bench.Bench.{Bench}
use Rattle.live.specs.declared.bench.Row.{Row}

-- Where a run stands: the queue, the last answer, the bench, and what was told.
pub record Live : Type 0 where
  pub queue : Queue
  pub reply : Reply
  pub bench : Bench
  pub told : List Row

abbrev pub start : Queue → Bench → List Row → Live
start q b told = record { queue = q; reply = record { count = 0; number = 0; byte = 0; asks = 0 }; bench = b; told = told }

-- The state after a step of the bench and the call's own step.
abbrev pub stepped : Bench → List Row → Step → Live
stepped b told s = record { queue = s.queue; reply = s.reply; bench = b; told = told }

-- One tick.
unfoldable pub ticked : List ℕ → Live → Live
ticked words s =
    stepped (next_of s.bench s.reply words s.told) (told_of s.bench s.reply words s.told)
    (called (call_of s.bench s.reply words s.told) s.queue)

-- So many ticks, the latest outermost.
abbrev pub ran : List ℕ → Live → ℕ → Live
ran words s zero = s
ran words s (suc n) = ticked words (ran words s n)
