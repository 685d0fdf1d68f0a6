-- A pixel's colour is what its palette entry shows for it.
use Rattle.colours.proofs.colour.Goals as goal

pub returns : goal.returns
returns c = simp (c.shown.ensures, c.palette.ensures)
