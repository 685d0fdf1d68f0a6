-- Cell after cell: after each turn the first j are stored, each its 16 bits of the sum.
use Rattle.buffers.proofs.Paints.{Paints}
use Rattle.frame.specs.inner.Ink.{quad_cell}
use Rattle.frame.proofs.quads.put_quad.Given as goal

abbrev pub invariant-loop-j : goal.invariant-loop-j
invariant-loop-j l = Paints 0 l.initial.out l.out 0 l.j (quad_cell l.x)
