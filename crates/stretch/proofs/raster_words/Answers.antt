-- The returned part is that stretch of the caller's list: what `find` tells bounds it, and a part by two ends starts 4 bytes on for each word before it.
use Rattle.stretch.proofs.Answers.{returned_none, returned_stretch, words_room}
use mathlib.Core.Path.{refl}
use native.Mathlib.Omega.{arith}
use Rattle.stretch.proofs.raster_words.Goals as goal

pub overflow_add-result : goal.overflow_add-result
overflow_add-result c = omega (arith, words_room _ _ _ c.in-Ok.ensures)

pub offset_bounds-video-stretch : goal.offset_bounds-video-stretch
offset_bounds-video-stretch c = omega (arith, words_room _ _ _ c.in-Ok.ensures)

pub slice_bounds-result-end : goal.slice_bounds-result-end
slice_bounds-result-end c = words_room _ _ _ c.in-Ok.ensures

pub returns-in-Err : goal.returns-in-Err
returns-in-Err c = returned_none _ _ _ _ refl _ c.in-Err.ensures refl (omega arith)

pub returns-in-Ok : goal.returns-in-Ok
returns-in-Ok c = returned_stretch _ _ _ _ refl c.in-Ok.ensures refl (omega arith)
