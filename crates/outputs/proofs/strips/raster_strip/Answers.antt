-- The raster is painted into cells of its own, and its strip is theirs, for which there is room.
use native.Mathlib.Omega.{arith}
use Rattle.outputs.specs.Strip.{raster_strip}
use Rattle.outputs.proofs.Given.{some_cells}
use Rattle.outputs.proofs.Pictures.{guns_fit}
use Rattle.outputs.proofs.strips.raster_strip.Goals as goal

pub returns : goal.returns
unfolding raster_strip
returns c =
    let p = c.args.p.now in
    let some = some_cells p.g p.video.now p.cursor.now p.s p.accepted c.args.y.0 c.raster.ensures in
    rw (← c.raster.ensures) (guns_fit _ _ (omega (arith, some.1, c.requires.0)) c.guns.ensures)
