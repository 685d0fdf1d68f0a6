-- The first word of a displayed raster: so many rasters of so many words stand before it, few enough for an index.
use native.Mathlib.Omega.{arith}
use Rattle.cells.specs.Pixel.{first_word}
use Rattle.cells.proofs.RasterWords.{first_most}
use Rattle.frame.proofs.display.first_word.Goals as goal

pub overflow_mul-result : goal.overflow_mul-result
overflow_mul-result c =
    omega (arith, rw (← c.raster_words.ensures, ← c.from.ensures) at (first_most c.args.s c.requires.0 c.args.y.0 (omega arith)))

pub returns : goal.returns
unfolding first_word
returns c = rw (c.raster_words.ensures, c.from.ensures)
