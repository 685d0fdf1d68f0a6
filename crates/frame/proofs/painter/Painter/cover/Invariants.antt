-- Pair after pair: after each turn those up to i stand over the cells, stored where they are not 00 and left out where they are.
use Rattle.std.proofs.Common.{◌≡◌, ◌+◌, ◌≤◌}
use Rattle.buffers.proofs.Paints.{Paints}
use Rattle.frame.specs.inner.Ink.{pair_ink}
use Rattle.frame.proofs.painter.Painter.cover.Given as goal

abbrev pub invariant-loop-i : goal.invariant-loop-i
invariant-loop-i l =
    Paints 0 l.initial.out l.out (l.start + l.low) (l.start + l.i) (pair_ink l.self.pens.now l.self.cursor.now l.first l.start l.initial.out)
    × (l.high ≤ l.low → l.i ≡ l.low)
