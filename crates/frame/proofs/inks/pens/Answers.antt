-- The four cells, each of a colour that the record holds.
use native.Mathlib.Omega.{arith}
use Rattle.registers.specs.Colours.{border_of, cursor_of}
use Rattle.frame.specs.inner.Ink.{pens_of}
use Rattle.frame.proofs.Ready.{made_cell}
use Rattle.frame.proofs.inks.pens.Goals as goal

pub returns : goal.returns
unfolding pens_of
returns c =
    let g = c.args.g in
    simp (
      made_cell 4 (border_of g) _ _ _ (omega arith) c.border.ensures c.of.ensures c.cell-border.ensures,
      made_cell 6 (cursor_of g 1) _ _ _ (omega arith) c.cursor_colour.ensures c.of-2.ensures c.cell-one.ensures,
      made_cell 6 (cursor_of g 2) _ _ _ (omega arith) c.cursor_colour-2.ensures c.of-3.ensures c.cell-two.ensures,
      made_cell 6 (cursor_of g 3) _ _ _ (omega arith) c.cursor_colour-3.ensures c.of-4.ensures c.cell-three.ensures,
    )
