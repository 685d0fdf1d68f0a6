-- A displayed raster's words: as many as the rule says.
use Rattle.registers.proofs.Words.{raster_words_holds}
use Rattle.frame.proofs.display.raster_words.Goals as goal

pub returns : goal.returns
returns c = simp (raster_words_holds, c.from.ensures, c.from-2.ensures)
