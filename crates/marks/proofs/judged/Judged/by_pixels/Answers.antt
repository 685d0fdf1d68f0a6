-- A raster pixel by pixel: the flags are those of the pixels that it shows, and its positions are at most 2048.
use Rattle.marks.proofs.Flags.{zeros_at}
use Rattle.marks.proofs.Extents.{entry_shown}
use native.Mathlib.Omega.{arith}
use Rattle.marks.proofs.judged.Judged.by_pixels.Goals as goal

pub returns : goal.returns
returns c =
    let shown = c.shown_in-count.ensures in
    entry_shown _ _ _ _ _ _ (zeros_at 256) (omega arith) shown.2 shown.0 c.entry_of.ensures
