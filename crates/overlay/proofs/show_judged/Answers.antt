-- A picture that is given has a width that one raster's memory holds.
use mathlib.Core.Path.{sym}
use Rattle.cells.proofs.Pictures.{given_picture}
use Rattle.overlay.proofs.show_judged.Goals as goal

pub of-requires : goal.of-requires
of-requires g c =
    (given_picture c.args.g c.args.sheet.video.now c.args.sheet.cursor.now c.in_ok-s.s (sym c.in_ok-s.ensures)).accepted.n_most
