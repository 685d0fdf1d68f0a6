-- The power of ten that the number reaches tells its places.
use Rattle.outputs.proofs.Tens.{places_are}
use Rattle.outputs.proofs.number.count_places.Goals as goal

pub returns : goal.returns
returns c =
    let reached = c.ilog10.ensures in
    places_are c.args.n c.max.result c.ilog10.result c.max.ensures reached.power_le reached.next_power_gt reached.bound
