-- The step means what its contract says.
use Rattle.queues.specs.Steps.{read_of}
use Rattle.queues.proofs.lent.read.Given as goal

abbrev pub ghost-thin : goal.ghost-thin
ghost-thin a = read_of
