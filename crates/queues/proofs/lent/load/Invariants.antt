-- The step means what its contract says.
use Rattle.queues.specs.Steps.{load_of}
use Rattle.queues.proofs.lent.load.Given as goal

abbrev pub ghost-thin : goal.ghost-thin
ghost-thin a = load_of
