-- A pixel is bright by its grey.
use Rattle.marks.proofs.Greys.{lit_bright}
use Rattle.marks.proofs.Tabled.{bright_most}
use Rattle.marks.proofs.tables.Shades.of.Goals as goal

pub invariant_of-result : goal.invariant_of-result
invariant_of-result c =
    let bright = lit_bright c.args.g c.args.depth c.args.threshold c.greys_of-greys.ensures c.lit_pixels.ensures in
    record { few = bright_most c.args.g c.args.depth c.args.threshold bright }

pub returns-clause-bright : goal.returns-clause-bright
returns-clause-bright c = lit_bright c.args.g c.args.depth c.args.threshold c.greys_of-greys.ensures c.lit_pixels.ensures
