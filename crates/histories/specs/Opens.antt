-- A fit record as the end of a history: the words it holds, in order, of which the first has lost the bytes already read.
use Rattle.std.specs.Prelude.{ℕ, zero, suc, ◌+◌, ◌-◌, List, [], ◌∷◌, get_or, take, drop}
use Rattle.buffers.specs.Words.{bytes_of}
use Rattle.queues.specs.Queue.{queue_depth, around}
use Rattle.queues.specs.declared.Queue.{Queue}
use Rattle.histories.specs.Account.{Account}

-- So many words of a ring, from a place on and around its end.
unfoldable pub ring_from : List ℕ → ℕ → ℕ → ℕ → List ℕ
ring_from words depth place zero = []
ring_from words depth place (suc n) = get_or words place 0 ∷ ring_from words depth (around depth (place + 1)) n

abbrev pub held_words : Queue → List ℕ
held_words q = ring_from q.words (queue_depth q.ring.kind) q.ring.place q.ring.held

-- The bytes still to read.
abbrev pub bytes_left : Queue → List ℕ
bytes_left q = drop q.ring.taken (bytes_of (held_words q))

abbrev pub opens : Queue → Account
opens q =
    record {
      kind = q.ring.kind;
      before = q.ring.count - q.ring.held;
      first = q.ring.place;
      loaded = held_words q;
      given = take q.ring.taken (bytes_of (held_words q));
      coming = q.ring.coming;
    }
