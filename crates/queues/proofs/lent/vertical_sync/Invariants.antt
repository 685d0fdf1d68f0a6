-- The step means what its contract says.
use Rattle.queues.specs.Steps.{vertical_of}
use Rattle.queues.proofs.lent.vertical_sync.Given as goal

abbrev pub ghost-thin : goal.ghost-thin
ghost-thin a = vertical_of
