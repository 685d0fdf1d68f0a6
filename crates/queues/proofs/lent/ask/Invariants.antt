-- The step means what its contract says.
use Rattle.queues.specs.Steps.{ask_of}
use Rattle.queues.proofs.lent.ask.Given as goal

abbrev pub ghost-thin : goal.ghost-thin
ghost-thin a = ask_of
