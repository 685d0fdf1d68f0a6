-- A setting that is told is an accepted one.
use Rattle.std.proofs.Common.{sym}
use Rattle.vombelishi.proofs.Pictured.{setting_accepted}
use Rattle.vombelishi.proofs.loads.vom_load_and_check.Goals as goal

pub numbers-requires : goal.numbers-requires
numbers-requires c = setting_accepted c.args.values.now c.args.written.now c.args.words.now _ (sym c.in-Ok.ensures.told)
