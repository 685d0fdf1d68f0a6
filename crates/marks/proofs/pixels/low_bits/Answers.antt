-- The low d bits: a mask of d ones is a remainder.
use Rattle.marks.proofs.Masks.{low_bits}
use Rattle.marks.proofs.pixels.low_bits.Goals as goal

pub returns : goal.returns
returns c = low_bits _ _ c.requires
