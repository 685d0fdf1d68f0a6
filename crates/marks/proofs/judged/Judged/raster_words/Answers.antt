-- The words of a displayed raster: the product of its width and its depth stays small.
use Rattle.std.proofs.Common.{sym}
use Rattle.registers.proofs.Words.{raster_words_holds}
use Rattle.marks.proofs.judged.Judged.raster_words.Goals as goal

pub returns : goal.returns
returns c = rw (c.from.ensures, c.from-2.ensures) (sym (raster_words_holds _))
