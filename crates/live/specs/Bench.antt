-- What a tick of the bench does next, and what it notes.
use Rattle.std.specs.Prelude.{ℕ, ◌-◌, ◌/◌, Bool, true, false, not, ◌&&◌, List, ◌==◌, nat_lt, Option, Some, None}
use Rattle.buffers.specs.Pick.{pick}
use Rattle.queues.specs.Steps.{load_of, read_of, vertical_of, ask_of}
use Rattle.queues.specs.declared.Queue.{Queue}
use Rattle.queues.specs.declared.Reply.{Reply}
use Rattle.queues.specs.declared.Step.{Step}
use Rattle.live.specs.Table.{plus, word_or, byte_or, row_at, row_put}
use Rattle.live.specs.declared.bench.Bench.{Bench}
use Rattle.live.specs.declared.bench.Call.{Call}
use Rattle.live.specs.declared.bench.Call.TheVariants.{VerticalSync, Ask, Load, Read}
use Rattle.live.specs.declared.bench.Row.{Row}
use Rattle.live.specs.declared.bench.Totals.{Totals}

-- What each call makes of a queue.
abbrev pub called : Call → Queue → Step
called (VerticalSync raster) q = vertical_of q raster
called (Ask words) q = ask_of q words
called (Load word) q = load_of q word
called (Read control) q = read_of q control

abbrev pub one_loaded : Totals → Totals
one_loaded t = record { asked = t.asked; words = plus t.words 1; bytes = t.bytes; own = t.own }

-- The frame's own bytes end with the first that is not.
abbrev pub own_after : Totals → Bool → ℕ
own_after t own = pick (own && t.own == t.bytes) (plus t.own 1) t.own

abbrev pub one_read : Totals → Bool → Totals
one_read t own = record { asked = t.asked; words = t.words; bytes = plus t.bytes 1; own = own_after t own }

abbrev pub four_asked : Totals → Totals
four_asked t = record { asked = plus t.asked 4; words = t.words; bytes = t.bytes; own = t.own }

abbrev pub is_own : Reply → ℕ → Bool
is_own reply own = reply.number == 0 && reply.byte == own

-- A bench that stands at a raster, whose last call is that one.
abbrev pub with_call : Bench → Call → ℕ → ℕ → Bench
with_call b call raster left = record {
  last = Some call;
  control = b.control;
  rasters = b.rasters;
  raster = raster;
  block = b.block;
  left = left;
  totals = b.totals;
}

abbrev pub with_totals : Bench → ℕ → ℕ → Totals → Bench
with_totals b block left totals = record {
  last = b.last;
  control = b.control;
  rasters = b.rasters;
  raster = b.raster;
  block = block;
  left = left;
  totals = totals;
}

-- What the last call did: a load that was not refused, or a read.
abbrev pub counted_after : Option Call → Bench → Reply → List ℕ → Bench
counted_after None b reply words = b
counted_after (Some (VerticalSync raster)) b reply words = b
counted_after (Some (Ask n)) b reply words = b
counted_after (Some (Load word)) b reply words = pick (reply.number == 0) (with_totals b (b.block - 1) b.left (one_loaded b.totals)) b
counted_after (Some (Read control)) b reply words =
    with_totals b b.block (b.left - 1) (one_read b.totals (is_own reply (byte_or words b.totals.bytes)))

unfoldable pub counted_of : Bench → Reply → List ℕ → Bench
counted_of b reply words = counted_after b.last b reply words

-- Where the queue asks and no block is being loaded, a block of four begins.
unfoldable pub block_of : Bench → ℕ → Bench
block_of b asks = pick (b.block == 0 && asks == 1) (with_totals b 4 b.left (four_asked b.totals)) b

abbrev pub is_running : Bench → Bool
is_running b = nat_lt b.raster b.rasters

-- A word of a block is to be loaded, and fewer than eight words are held.
abbrev pub has_room : Bench → Bool
has_room b = nat_lt 0 b.block && nat_lt (b.totals.words - b.totals.bytes / 4) 8

-- A call behind the raster's vertical sync.
abbrev pub is_synced : Option Call → Bool
is_synced None = false
is_synced (Some (VerticalSync raster)) = false
is_synced (Some (Ask words)) = true
is_synced (Some (Load word)) = true
is_synced (Some (Read control)) = true

abbrev pub is_finished : Bench → Bool
is_finished b = is_running b && is_synced b.last && not (has_room b) && b.left == 0

-- The call on a raster that is not finished: its vertical sync, its sync's end, a load where there is room, else a read.
abbrev pub raster_call : Option Call → Bench → List ℕ → List Row → Call
raster_call None b words told = VerticalSync b.raster
raster_call (Some (VerticalSync raster)) b words told = Ask (row_at told b.raster).asked
raster_call (Some (Ask n)) b words told = pick (has_room b) (Load (word_or words b.totals.words)) (Read b.control)
raster_call (Some (Load word)) b words told = pick (has_room b) (Load (word_or words b.totals.words)) (Read b.control)
raster_call (Some (Read control)) b words told = pick (has_room b) (Load (word_or words b.totals.words)) (Read b.control)

-- Behind the last raster nothing is asked for.
unfoldable pub chosen_call : Bench → List ℕ → List Row → Call
chosen_call b words told = pick (is_running b) (raster_call b.last b words told) (Ask 0)

-- At the sync's end the bytes that the raster's display takes are left to be read.
abbrev pub raster_left : Option Call → Bench → List Row → ℕ
raster_left None b told = b.left
raster_left (Some (VerticalSync raster)) b told = (row_at told b.raster).loaded
raster_left (Some (Ask n)) b told = b.left
raster_left (Some (Load word)) b told = b.left
raster_left (Some (Read control)) b told = b.left

unfoldable pub chosen_left : Bench → List Row → ℕ
chosen_left b told = pick (is_running b) (raster_left b.last b told) b.left

unfoldable pub noted : Bench → List Row → List Row
noted b told = row_put told b.raster (record { asked = b.totals.asked; loaded = b.totals.words; read = b.totals.bytes })

-- The bench with the last call counted.
unfoldable pub so_far : Bench → Reply → List ℕ → Bench
so_far b reply words = block_of (counted_of b reply words) reply.asks

-- Where the raster is finished the next one begins, with vertical sync.
unfoldable pub call_of : Bench → Reply → List ℕ → List Row → Call
call_of b reply words told =
    pick (is_finished (so_far b reply words))
    (VerticalSync (plus (so_far b reply words).raster 1))
    (chosen_call (so_far b reply words) words told)

unfoldable pub next_of : Bench → Reply → List ℕ → List Row → Bench
next_of b reply words told =
    pick (is_finished (so_far b reply words))
    (with_call (so_far b reply words) (call_of b reply words told) (plus (so_far b reply words).raster 1) (so_far b reply words).left)
    (with_call (so_far b reply words) (call_of b reply words told) (so_far b reply words).raster (chosen_left (so_far b reply words) told))

unfoldable pub told_of : Bench → Reply → List ℕ → List Row → List Row
told_of b reply words told = pick (is_finished (so_far b reply words)) (noted (so_far b reply words) told) told
