-- What a queue does, told without one: an account of the words loaded and the bytes given since the last emptying, in their order.
use Rattle.std.specs.Prelude.{ℕ, ◌+◌, ◌-◌, ◌/◌, ◌%◌, ◌^◌, min, Bool, false, ◌&&◌, ◌||◌, not, List, [], ◌∷◌, ◌++◌, eqb, ltb, leb, length, get_or}
use Rattle.buffers.specs.Bits.{bits}
use Rattle.buffers.specs.Pick.{pick}
use Rattle.buffers.specs.Words.{bytes_of}
use Rattle.queues.specs.Queue.{queue_depth, first_coming}
use Rattle.queues.specs.Syncs.{cursor_ask, video_ask}
use Rattle.queues.specs.declared.Reply.{Reply}
use Rattle.histories.specs.Calls.{QueueCall, load, read, vertical, ask, horizontal, ends, Answered}

-- The number of the first word loaded is 0 but for an account that begins with a record taken as it is; so are the words counted before it.
pub record Account : Type 0 where
  pub kind : ℕ
  pub before : ℕ
  pub first : ℕ
  pub loaded : List ℕ
  pub given : List ℕ
  pub coming : ℕ

-- A fresh queue counts as just emptied.
abbrev pub opened : ℕ → Account
opened kind = record { kind = kind; before = 0; first = 0; loaded = []; given = []; coming = first_coming kind }

-- Words counted, words wholly read, and words held: a word holds its room until its last byte is read.
abbrev pub count_of : Account → ℕ
count_of a = a.before + length a.loaded

abbrev pub wholly : Account → ℕ
wholly a = length a.given / 4

abbrev pub holds : Account → ℕ
holds a = length a.loaded - wholly a

-- The next byte: the words in the order they came, the low byte of each first.
abbrev pub next_byte : Account → ℕ
next_byte a = get_or (bytes_of a.loaded) (length a.given) 0

-- 16: a load into a full queue, or with the count at its largest. 17: a read from an empty one.
abbrev pub is_full_by : Account → Bool
is_full_by a = leb (queue_depth a.kind) (holds a) || eqb (count_of a) (2 ^ 64 - 1)

abbrev pub is_empty_by : Account → Bool
is_empty_by a = eqb (holds a) 0

-- What reading to the end of a word asks for: four where a video word's number is the one that control bits 5-4 choose, counted by fours;
-- four where it is the last word that a sound queue holds.
abbrev pub asked_at_end : Account → ℕ → ℕ
asked_at_end a control =
    pick (eqb a.kind 0)
    (pick (eqb ((a.first + wholly a) % 4) (bits 5 4 control)) 4 0)
    (pick (ltb 1 a.kind && eqb (holds a) 1) 4 0)

-- What a call asks for. Horizontal sync asks of a cursor queue, its end of a video queue.
abbrev pub asks_for : Account → QueueCall → ℕ
asks_for a (load w) = 0
asks_for a (read control) = pick (is_empty_by a) 0 (pick (eqb (length a.given % 4) 3) (asked_at_end a control) 0)
asks_for a (vertical raster) = 0
asks_for a (ask words) = words
asks_for a (horizontal g y) = pick (eqb a.kind 1) (cursor_ask g y) 0
asks_for a (ends g y) = pick (eqb a.kind 0) (video_ask g y) 0

-- An ask adds to the words still to come, up to the depth.
abbrev pub coming_with : Account → ℕ → ℕ
coming_with a words = min (queue_depth a.kind) (a.coming + words)

-- A word loaded takes one off the words still to come, if any.
abbrev pub with_loaded : Account → ℕ → Account
with_loaded a w =
    record { kind = a.kind; before = a.before; first = a.first; loaded = a.loaded ++ w ∷ []; given = a.given; coming = a.coming - 1 }

abbrev pub with_given : Account → ℕ → ℕ → Account
with_given a byte words =
    record {
      kind = a.kind;
      before = a.before;
      first = a.first;
      loaded = a.loaded;
      given = a.given ++ byte ∷ [];
      coming = coming_with a words;
    }

abbrev pub with_asked : Account → ℕ → Account
with_asked a words =
    record { kind = a.kind; before = a.before; first = a.first; loaded = a.loaded; given = a.given; coming = coming_with a words }

-- Only vertical sync empties, where it starts, and never sound.
abbrev pub empties : ℕ → QueueCall → Bool
empties kind (load w) = false
empties kind (read control) = false
empties kind (vertical raster) = eqb raster 0 && not (ltb 1 kind)
empties kind (ask words) = false
empties kind (horizontal g y) = false
empties kind (ends g y) = false

-- A turn: the account afterwards, and the reply. Every reply carries the count, and says whether four words or more are still to come.
pub record Turn : Type 0 where
  pub account : Account
  pub reply : Reply

abbrev pub turn : Account → ℕ → ℕ → Turn
turn a number byte =
    record { account = a; reply = record { count = count_of a; number = number; byte = byte; asks = pick (leb 4 a.coming) 1 0 } }

abbrev pub turned : Account → QueueCall → Turn
turned a (load w) = pick (is_full_by a) (turn a 16 0) (turn (with_loaded a w) 0 0)
turned a (read control) =
    pick (is_empty_by a) (turn a 17 0) (turn (with_given a (next_byte a) (asks_for a (read control))) 0 (next_byte a))
turned a (vertical raster) = turn (pick (empties a.kind (vertical raster)) (opened a.kind) a) 0 0
turned a (ask words) = turn (with_asked a words) 0 0
turned a (horizontal g y) = turn (with_asked a (asks_for a (horizontal g y))) 0 0
turned a (ends g y) = turn (with_asked a (asks_for a (ends g y))) 0 0

-- The account after a history, and what it says that the calls are answered.
unfoldable pub account : Account → List QueueCall → Account
account a [] = a
account a (c ∷ cs) = (turned (account a cs) c).account

unfoldable pub account_told : Account → List QueueCall → List Answered
account_told a [] = []
account_told a (c ∷ cs) = record { call = c; reply = (turned (account a cs) c).reply } ∷ account_told a cs
