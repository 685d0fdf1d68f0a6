-- What each call makes of a queue, and what it answers.
use Rattle.std.specs.Prelude.{ℕ, ◌+◌, ◌-◌, ◌%◌, ◌&&◌, List, [], ◌∷◌, eqb, ltb, set}
use Rattle.buffers.specs.Pick.{pick}
use Rattle.buffers.specs.Bits.{bits}
use Rattle.refusals.specs.Table.{Told, given, refused, why, Row, row}
use Rattle.refusals.specs.Refusals.{why_of}
use Rattle.refusals.specs.declared.Refusal.{Refusal}
use Rattle.refusals.specs.declared.Refusal.TheVariants.{Full, Empty}
use Rattle.registers.specs.declared.record.Registers.{Registers}
use Rattle.queues.specs.Queue.{queue_depth, fresh_of, fitted_of, is_full, is_empty, asks_bit, around, front_byte}
use Rattle.queues.specs.Syncs.{cursor_ask, video_ask}
use Rattle.queues.specs.declared.Queue.{Queue}
use Rattle.queues.specs.declared.Reply.{Reply}
use Rattle.queues.specs.declared.Ring.{Ring}
use Rattle.queues.specs.declared.Step.{Step}

-- Every answer carries the count, and tells whether the queue asks.
abbrev pub step_of : Queue → ℕ → ℕ → Step
step_of q number byte = record { queue = q; reply = record { count = q.ring.count; number = number; byte = byte; asks = asks_bit q.ring } }

abbrev pub done : Queue → ℕ → Step
done q byte = step_of q 0 byte

abbrev pub refused_step : Queue → Refusal → Step
refused_step q why = step_of q (why_of why).number 0

-- The place behind the last word held.
abbrev pub behind : Ring → ℕ
behind r = around (queue_depth r.kind) (r.place + r.held)

-- A load takes one off the words still to come, if any.
abbrev pub ring_put : Ring → Ring
ring_put r =
    record { kind = r.kind; taken = r.taken; place = r.place; held = r.held + 1; coming = r.coming - 1; count = r.count + 1 }

abbrev pub with_word : Queue → ℕ → Queue
with_word q w = record { words = set q.words (behind q.ring) w; ring = ring_put q.ring }

-- An ask adds to the words still to come, up to the queue's depth.
abbrev pub up_to : ℕ → ℕ → ℕ → ℕ
up_to limit a b = pick (ltb limit (a + b)) limit (a + b)

abbrev pub ring_asked : Ring → ℕ → Ring
ring_asked r n =
    record { kind = r.kind; taken = r.taken; place = r.place; held = r.held; coming = up_to (queue_depth r.kind) r.coming n; count = r.count }

-- Video asks for four at the end of the words whose place control bits 5-4 choose, sound when its last byte is read.
abbrev pub asked_by : Ring → ℕ → ℕ
asked_by r control =
    pick (eqb r.kind 0) (pick (eqb (r.place % 4) (bits 5 4 control)) 4 0) (pick (ltb 1 r.kind && eqb r.held 1) 4 0)

-- A word holds its room until its last byte is read.
abbrev pub word_done : Ring → ℕ → Ring
word_done r control =
    ring_asked
    (record { kind = r.kind; taken = 0; place = around (queue_depth r.kind) (r.place + 1); held = r.held - 1; coming = r.coming; count = r.count })
    (asked_by r control)

abbrev pub byte_taken : Ring → ℕ → Ring
byte_taken r control =
    pick (eqb r.taken 3)
    (word_done r control)
    (record { kind = r.kind; taken = r.taken + 1; place = r.place; held = r.held; coming = r.coming; count = r.count })

abbrev pub without_byte : Queue → ℕ → Queue
without_byte q control = record { words = q.words; ring = byte_taken q.ring control }

-- A load into a fit queue, and a read from one.
unfoldable pub load_fit : Queue → ℕ → Step
load_fit q w = pick (is_full q.ring) (refused_step q Full) (done (with_word q w) 0)

unfoldable pub read_fit : Queue → ℕ → Step
read_fit q control = pick (is_empty q.ring) (refused_step q Empty) (done (without_byte q control) (front_byte q))

-- What a load and a read refuse, of the record that they go on with.
abbrev pub load_table : Queue → List Row
load_table q = row 16 (is_full (fitted_of q).ring) 0 ∷ []

abbrev pub read_table : Queue → List Row
read_table q = row 17 (is_empty (fitted_of q).ring) 0 ∷ []

-- What a reply tells: the byte, or why the call is refused.
abbrev pub reply_says : Reply → Told ℕ
reply_says r = pick (eqb r.number 0) (given r.byte) (refused (why r.number 0))

-- The calls: one that is not fit is first replaced by a fresh one, even on refusal.
unfoldable pub load_of : Queue → ℕ → Step
load_of q w = load_fit (fitted_of q) w

unfoldable pub read_of : Queue → ℕ → Step
read_of q control = read_fit (fitted_of q) control

-- Only vertical sync empties, and never sound.
abbrev pub emptied_of : Queue → Queue
emptied_of q = pick (ltb 1 q.ring.kind) q (fresh_of q.ring.kind)

-- Vertical sync starts with raster 0.
unfoldable pub vertical_of : Queue → ℕ → Step
vertical_of q raster = done (pick (eqb raster 0) (emptied_of (fitted_of q)) (fitted_of q)) 0

abbrev pub with_ask : Queue → ℕ → Queue
with_ask q n = record { words = q.words; ring = ring_asked q.ring n }

unfoldable pub ask_of : Queue → ℕ → Step
ask_of q n = done (with_ask (fitted_of q) n) 0

-- Horizontal sync asks of a cursor queue, its end of a video queue.
unfoldable pub horizontal_of : Queue → Registers → ℕ → Step
horizontal_of q g y = ask_of q (pick (eqb q.ring.kind 1) (cursor_ask g y) 0)

unfoldable pub ends_of : Queue → Registers → ℕ → Step
ends_of q g y = ask_of q (pick (eqb q.ring.kind 0) (video_ask g y) 0)
