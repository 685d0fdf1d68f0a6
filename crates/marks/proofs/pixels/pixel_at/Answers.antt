-- A logical pixel: its word is there, and the shift and the mask are the rule's.
use Rattle.cells.specs.Pixel.{pixel}
use Rattle.marks.proofs.pixels.pixel_at.Goals as goal

pub returns : goal.returns
unfolding pixel
returns c = c.low_bits.ensures
