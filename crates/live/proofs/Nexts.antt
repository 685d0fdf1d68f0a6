-- What the bench does next, by whether the raster is finished once the last call is counted.
use Rattle.std.proofs.Common.{◌≡◌, ℕ, true, false, List}
use Rattle.queues.specs.declared.Reply.{Reply}
use Rattle.live.specs.Table.{plus}
use Rattle.live.specs.Bench.{with_call, counted_of, block_of, is_finished, chosen_call, chosen_left, noted, so_far, call_of, next_of, told_of}
use Rattle.live.specs.declared.bench.Bench.{Bench}
use Rattle.live.specs.declared.bench.Call.{Call}
use Rattle.live.specs.declared.bench.Call.TheVariants.{VerticalSync}
use Rattle.live.specs.declared.bench.Row.{Row}

module _ (b c d : Bench) (reply : Reply) (words : List ℕ) (told : List Row) (counts : c ≡ counted_of b reply words) (blocks : d ≡ block_of c reply.asks) where
  abbrev Next : Bench → Call → List Row → Type 0
  Next after call table = record {
    bench : after ≡ next_of b reply words told;
    call : call ≡ call_of b reply words told;
    table : table ≡ told_of b reply words told;
  }

  pub next_finished : is_finished d ≡ true
      → Next (with_call d (VerticalSync (plus d.raster 1)) (plus d.raster 1) d.left) (VerticalSync (plus d.raster 1)) (noted d told)
  unfolding so_far call_of next_of told_of
  next_finished e =
      let is : block_of (counted_of b reply words) reply.asks ≡ d = rw (blocks, counts) in
      record { bench = rw (is, e); call = rw (is, e); table = rw (is, e) }

  pub next_chosen : is_finished d ≡ false → Next (with_call d (chosen_call d words told) d.raster (chosen_left d told)) (chosen_call d words told) told
  unfolding so_far call_of next_of told_of
  next_chosen e =
      let is : block_of (counted_of b reply words) reply.asks ≡ d = rw (blocks, counts) in
      record { bench = rw (is, e); call = rw (is, e); table = rw (is, e) }
