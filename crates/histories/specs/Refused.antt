-- Which calls refuse a record, and with which number.
use Rattle.std.specs.Prelude.{ℕ, Bool, false}
use Rattle.queues.specs.Queue.{fitted_of, is_full, is_empty}
use Rattle.queues.specs.declared.Queue.{Queue}
use Rattle.histories.specs.Calls.{QueueCall, load, read, vertical, ask, horizontal, ends}

-- 16: a load into a full queue, or with the count at its largest. 17: a read from an empty one. An unfit record is first replaced.
abbrev pub refuses : Queue → QueueCall → Bool
refuses q (load w) = is_full (fitted_of q).ring
refuses q (read control) = is_empty (fitted_of q).ring
refuses q (vertical raster) = false
refuses q (ask words) = false
refuses q (horizontal g y) = false
refuses q (ends g y) = false

abbrev pub refusal_of : QueueCall → ℕ
refusal_of (load w) = 16
refusal_of (read control) = 17
refusal_of (vertical raster) = 0
refusal_of (ask words) = 0
refusal_of (horizontal g y) = 0
refusal_of (ends g y) = 0
