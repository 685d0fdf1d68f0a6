-- A queue's record: its depth, a fresh one, when it is fit, and what it holds.
use Rattle.std.specs.Prelude.{◌≡◌, ℕ, ◌*◌, ◌-◌, ◌/◌, ◌%◌, ◌^◌, ◌<◌, ◌≤◌, Bool, ◌&&◌, ◌||◌, eqb, ltb, leb, get_or, replicate}
use Rattle.buffers.specs.Pick.{pick}
use Rattle.queues.specs.declared.Kind.{Kind}
use Rattle.queues.specs.declared.Kind.TheVariants.{Video, Cursor, Sound}
use Rattle.queues.specs.declared.Queue.{Queue}
use Rattle.queues.specs.declared.Ring.{Ring}

-- A kind's numbers: 0 is video, 1 cursor, any other sound.
abbrev pub IsOfKind : ℕ → Kind → Type 0
IsOfKind n Video = n ≡ 0
IsOfKind n Cursor = n ≡ 1
IsOfKind n Sound = 1 < n

-- Video eight words, cursor and sound four.
abbrev pub queue_depth : ℕ → ℕ
queue_depth kind = pick (eqb kind 0) 8 4

-- Sound asks for four when fresh.
abbrev pub first_coming : ℕ → ℕ
first_coming kind = pick (ltb 1 kind) 4 0

abbrev pub fresh_ring : ℕ → Ring
fresh_ring kind = record { kind = kind; taken = 0; place = 0; held = 0; coming = first_coming kind; count = 0 }

abbrev pub fresh_of : ℕ → Queue
fresh_of kind = record { words = replicate 8 0; ring = fresh_ring kind }

-- The place inside the queue; words held and words to come at most its depth; no byte read of a word not held; the count not below the words held.
abbrev pub is_fit : Ring → Bool
is_fit r =
    ltb r.place (queue_depth r.kind)
    && leb r.held (queue_depth r.kind)
    && leb r.coming (queue_depth r.kind)
    && ltb r.taken 4
    && (eqb r.taken 0 || ltb 0 r.held)
    && leb r.held r.count

-- The same as facts; the fifth says that nothing is taken where nothing is held.
pub record Fit (r : Ring) : Type 0 where
  pub place : r.place < queue_depth r.kind
  pub held : r.held ≤ queue_depth r.kind
  pub coming : r.coming ≤ queue_depth r.kind
  pub taken : r.taken < 4
  pub none : r.taken ≤ 3 * r.held
  pub count : r.held ≤ r.count
  pub deep : queue_depth r.kind ≤ 8

-- One that is not fit is replaced by a fresh one of its kind.
unfoldable pub fitted_of : Queue → Queue
fitted_of q = pick (is_fit q.ring) q (fresh_of q.ring.kind)

-- Nothing goes into a full queue, nor where the count is at its largest.
abbrev pub is_full : Ring → Bool
is_full r = leb (queue_depth r.kind) r.held || eqb r.count (2 ^ 64 - 1)

abbrev pub is_empty : Ring → Bool
is_empty r = eqb r.held 0

-- A queue asks while four words or more are still to come.
abbrev pub asks_bit : Ring → ℕ
asks_bit r = pick (leb 4 r.coming) 1 0

-- A place around the end of a ring.
abbrev pub around : ℕ → ℕ → ℕ
around depth place = pick (ltb place depth) place (place - depth)

-- The next byte of the word being read, low byte first.
abbrev pub front_byte : Queue → ℕ
front_byte q = get_or q.words q.ring.place 0 / 2 ^ (8 * q.ring.taken) % 256
