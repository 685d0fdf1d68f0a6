-- Three bytes a cell, a cell a turn: what is stored and what the rest will store make the whole.
use Prim.Native.Nat.{◌*◌}
use mathlib.Core.Path.{◌≡◌}
use lib.ListN.{drop}
use lib.Seq.{sets}
use Rattle.pictures.specs.Colours.{guns_of}
use Rattle.pictures.proofs.put_cells.Given as goal

abbrev pub invariant-loop-k : goal.invariant-loop-k
invariant-loop-k l = sets l.initial.out 0 (guns_of l.cells) ≡ sets l.out (3 * l.k) (guns_of (drop l.k l.cells))
