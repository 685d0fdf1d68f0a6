-- Pixel after pixel: after each turn the first p places hold the display cells of the palette's entries, which are the rule's.
use Rattle.buffers.proofs.Paints.{Paints}
use Rattle.frame.specs.inner.Ink.{entry_shade}
use Rattle.frame.proofs.inks.shades.Given as goal

abbrev pub invariant-loop-p : goal.invariant-loop-p
invariant-loop-p l = Paints 0 l.initial.list l.list 0 l.p (entry_shade l.palette l.depth)
