-- Histories of calls on one queue record, the latest call first.
use Rattle.std.specs.Prelude.{ℕ, List, [], ◌∷◌}
use Rattle.registers.specs.declared.record.Registers.{Registers}
use Rattle.queues.specs.Steps.{load_of, read_of, vertical_of, ask_of, horizontal_of, ends_of}
use Rattle.queues.specs.declared.Queue.{Queue}
use Rattle.queues.specs.declared.Reply.{Reply}
use Rattle.queues.specs.declared.Step.{Step}

-- A load has its word, a read the control register's data, a sync its raster, an ask its number of words.
pub data QueueCall : Type 0 where
  load : ℕ → QueueCall
  read : ℕ → QueueCall
  vertical : ℕ → QueueCall
  ask : ℕ → QueueCall
  horizontal : Registers → ℕ → QueueCall
  ends : Registers → ℕ → QueueCall

-- What a call makes of a record, by the definition that its function promises.
abbrev pub made : Queue → QueueCall → Step
made q (load w) = load_of q w
made q (read control) = read_of q control
made q (vertical raster) = vertical_of q raster
made q (ask words) = ask_of q words
made q (horizontal g y) = horizontal_of q g y
made q (ends g y) = ends_of q g y

-- The record after a history.
unfoldable pub after : Queue → List QueueCall → Queue
after q [] = q
after q (c ∷ cs) = (made (after q cs) c).queue

-- A call with what it was answered.
pub record Answered : Type 0 where
  pub call : QueueCall
  pub reply : Reply

unfoldable pub answers : Queue → List QueueCall → List Answered
answers q [] = []
answers q (c ∷ cs) = record { call = c; reply = (made (after q cs) c).reply } ∷ answers q cs
