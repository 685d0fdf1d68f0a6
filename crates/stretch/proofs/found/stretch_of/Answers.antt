-- A displayed raster's words: those of the rasters before it are passed over; no words where it lies before or behind the display.
use Rattle.std.proofs.Common.{◌<◌, ◌≤◌}
use Rattle.std.proofs.lemmas.Bool.Decides.{nat_tests}
use Rattle.stretch.proofs.Stretches.{stretch_none, stretch_at}
use Rattle.cells.specs.Pixel.{first_word}
use Rattle.registers.proofs.Words.{raster_words_holds}
use mathlib.Core.Path.{sym}
use native.Mathlib.Omega.{arith}
use Rattle.stretch.proofs.found.stretch_of.Goals as goal

pub returns-then-not-contains : goal.returns-then-not-contains
returns-then-not-contains c = stretch_none c.args.s c.args.y.0 (λ h. grind (arith, nat_tests, h.0, h.1))

pub returns : goal.returns
unfolding first_word
returns c =
    let low : c.args.s.vds.0 ≤ c.args.y.0 = grind (arith, nat_tests) in
    let high : c.args.y.0 < c.args.s.vde.0 = grind (arith, nat_tests) in
    rw (c.from.ensures, c.from-2.ensures, c.from-3.ensures)
    (rw (raster_words_holds c.args.s) at (sym (stretch_at c.args.s c.args.y.0 low high)))
