-- Colour after colour: after each turn the first k hold what their threes say, and nothing else has changed.
use Rattle.buffers.proofs.Paints.{Paints}
use Rattle.pictures.specs.Read.{colour_read_at}
use Rattle.pictures.proofs.read.put_colours.Given as goal

abbrev pub invariant-loop-k : goal.invariant-loop-k
invariant-loop-k l = Paints 0 l.initial.out l.out 0 l.k (colour_read_at l.bytes)
