-- The raster is painted into cells of its own, and its line is theirs.
use native.Mathlib.Omega.{arith}
use Rattle.outputs.specs.Text.{raster_line}
use Rattle.outputs.proofs.Given.{some_cells}
use Rattle.outputs.proofs.text.raster_line.Goals as goal

pub put_line-requires : goal.put_line-requires
put_line-requires c =
    let p = c.args.p.now in
    let some = some_cells p.g p.video.now p.cursor.now p.s p.accepted c.args.y.0 c.raster.ensures in
    (some.0, some.1, omega (arith, some.1, c.requires.0))

pub returns : goal.returns
unfolding raster_line
returns c = rw (← c.raster.ensures) c.put_line.ensures
