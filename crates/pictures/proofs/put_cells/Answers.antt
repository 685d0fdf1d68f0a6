-- Three bytes a cell, a cell a turn: what is stored and what the rest will store make the whole.
use mathlib.Core.Path.{sym, ◌∙◌}
use native.Mathlib.Omega.{arith}
use Rattle.pictures.proofs.Stored.{guns_turn, guns_done}
use Rattle.pictures.proofs.put_cells.Goals as goal

pub loop-k-preserved : goal.loop-k-preserved
loop-k-preserved c =
    let l = c.loop-k in
    l.invariant
    ∙ guns_turn l.out _ c.args.cells.now l.k _ c.loop-k-test.true (omega arith) c.of-colour.ensures
    (c.copy_from_slice.ensures.after ∙ c.three_of.ensures)

pub returns : goal.returns
returns c = sym (c.loop-k.invariant ∙ guns_done c.loop-k.out c.args.cells.now _ c.loop-k.k c.loop-k-test.false)
