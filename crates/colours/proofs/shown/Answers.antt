-- What an entry shows, by depth: mixed with the pixel at 8, whole at any other; and that taken apart.
use mathlib.Core.Path.{◌∙◌, ap}
use borrow.Author.Tests.{eq-eqb, ne_eqb}
use Rattle.colours.specs.Apart.{apart_of}
use Rattle.colours.proofs.Together.{apart_low}
use Rattle.colours.proofs.shown.Goals as goal

pub returns-then-depth-eq8 : goal.returns-then-depth-eq8
returns-then-depth-eq8 c = rw (eq-eqb _ _ c.if-depth-eq8.true) (c.of.ensures ∙ ap apart_of c.mix.ensures)

pub returns : goal.returns
returns c = rw (ne_eqb _ _ c.if-depth-eq8.false) (c.of-2.ensures ∙ apart_low c.args.entry)
