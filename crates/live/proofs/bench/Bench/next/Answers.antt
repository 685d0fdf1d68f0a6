-- A finished raster is noted, and the next one begins; on any other a call is chosen.
use Rattle.std.proofs.Common.{sym, ◌∙◌}
use Rattle.live.proofs.Nexts.{next_finished, next_chosen}
use Rattle.live.proofs.bench.Bench.next.Goals as goal

pub returns-then-is_finished : goal.returns-then-is_finished
returns-then-is_finished c =
    let done = next_finished c.args.self.now _ _ c.args.reply c.args.words.now c.args.told.now c.counted.ensures c.with_block-b.ensures
    (sym c.if-is_finished.ensures) in
    record { bench = c.with_call.ensures ∙ done.bench; call = done.call; table = c.note.ensures ∙ done.table }

pub returns : goal.returns
returns c =
    let done = next_chosen c.args.self.now _ _ c.args.reply c.args.words.now c.args.told.now c.counted.ensures c.with_block-b.ensures
    (sym c.if-is_finished.ensures) in
    record {
      bench = rw (c.with_call-2.ensures, c.chosen_call-call.ensures, c.chosen_left.ensures) done.bench;
      call = c.chosen_call-call.ensures ∙ done.call;
      table = done.table;
    }
