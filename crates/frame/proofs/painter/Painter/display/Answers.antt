-- The display's stretch of a raster: the words from the first up to the last lie in the list, and all their pixels are painted.
use Rattle.std.proofs.Common.{◌≡◌, ◌+◌, ◌-◌, arith}
use Rattle.buffers.proofs.Paints.{paint_as, paints_of, paints_painted}
use Rattle.registers.specs.Setting.{raster_words}
use Rattle.cells.specs.Pixel.{first_word}
use Rattle.frame.proofs.DisplayCells.{words_lie, row_pixels, row_ink, part_length}
use Rattle.frame.proofs.painter.Painter.display.Goals as goal

pub overflow_add-words : goal.overflow_add-words
overflow_add-words c =
    let lie = words_lie c.args.self.now.picture c.args.y.0 c.requires.1 c.requires.2 in
    omega arith

pub offset_bounds-self-first : goal.offset_bounds-self-first
offset_bounds-self-first c =
    let lie = words_lie c.args.self.now.picture c.args.y.0 c.requires.1 c.requires.2 in
    omega arith

pub slice_bounds-words-end : goal.slice_bounds-words-end
slice_bounds-words-end c =
    let lie = words_lie c.args.self.now.picture c.args.y.0 c.requires.1 c.requires.2 in
    omega arith

pub shown-requires : goal.shown-requires
shown-requires c =
    let r = c.args.self.now.picture in
    let s = c.args.self.now.s in
    let lie = words_lie r c.args.y.0 c.requires.1 c.requires.2 in
    let m : c.first_word-first.result + c.raster_words.result - c.first_word-first.result ≡ raster_words s = omega arith in
    let long = part_length (raster_words s) (first_word s c.args.y.0) c.args.self.now.video.now lie in
    rw (m, c.first_word-first.ensures, long, row_pixels r c.args.y.0 c.requires.1) (omega arith)

pub returns : goal.returns
returns c =
    let r = c.args.self.now.picture in
    let s = c.args.self.now.s in
    let m : c.first_word-first.result + c.raster_words.result - c.first_word-first.result ≡ raster_words s = omega arith in
    paints_painted {d = 0} (omega arith)
    (paint_as _ (λ j a h. row_ink r c.args.y.0 c.requires.1 c.args.self.now.table.now j (omega arith))
    (paints_of {d = 0} (omega arith) (rw (m, c.first_word-first.ensures) at c.shown.ensures)))
