-- Byte after byte: after each turn the table holds the cells of all bytes below b, each made from those of a byte before it.
use Rattle.std.proofs.Common.{◌+◌, ◌-◌, ◌*◌, get_or}
use Rattle.buffers.proofs.Paints.{Paints}
use Rattle.frame.specs.inner.Ink.{bytes_ink}
use Rattle.frame.proofs.bytes.all.Given as goal

abbrev pub invariant-loop-b : goal.invariant-loop-b
invariant-loop-b g l = Paints 0 l.fn.table l.table 0 (l.b * g.row.PER) (bytes_ink l.shades g.row.PER g.row.D)

abbrev pub invariant-loop-j : goal.invariant-loop-j
invariant-loop-j g l = Paints 0 l.initial.cells l.cells 1 l.j (λ n. get_or l.table (l.rest + (n - 1)) 0)

abbrev pub invariant-loop-i : goal.invariant-loop-i
invariant-loop-i g l =
    Paints 0 l.initial.table l.table (l.b * g.row.PER) (l.b * g.row.PER + l.i) (λ n. get_or l.cells (n - l.b * g.row.PER) 0)
