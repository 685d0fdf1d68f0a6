-- Pixel after pixel: the cell by the palette's entry is the rule's.
use Rattle.std.proofs.Common.{◌≡◌, ◌^◌, arith}
use Rattle.buffers.proofs.Paints.{paint_more, paint_as, paints_painted}
use Rattle.frame.specs.inner.Ink.{shade}
use Rattle.frame.proofs.Ready.{count_is, entry_shade_holds, entry_shade_is}
use Rattle.frame.proofs.inks.shades.Goals as goal

pub loop-p-preserved : goal.loop-p-preserved
loop-p-preserved c =
    paint_more {d = 0} _ (omega arith) (omega (arith, count_is c.args.depth c.requires.0))
    (entry_shade_is _ _ _ _ _ c.shown.ensures c.cell.ensures) c.loop-p.invariant

pub returns : goal.returns
returns c =
    let e : c.loop-p.p ≡ 2 ^ c.args.depth = omega (arith, count_is c.args.depth c.requires.0) in
    paints_painted {d = 0} c.requires.1
    (paint_as (shade c.args.g c.args.depth) (λ k a b. entry_shade_holds c.args.g _ c.args.depth k c.entries-palette.ensures)
    (rw e at c.loop-p.invariant))
