-- The setting that is given was accepted.
use Rattle.registers.proofs.Accepting.{given_accepted}
use Rattle.stretch.proofs.found.find.Goals as goal

pub stretch_of-requires : goal.stretch_of-requires
stretch_of-requires c = given_accepted _ _ _ c.in_ok-s.ensures.told
