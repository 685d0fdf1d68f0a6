-- A picture that is given has the raster and room for it, and that one raster is painted.
use Rattle.std.proofs.Common.{◌≤◌, ◌<◌, length, sym, ◌∙◌, rules, arith}
use Rattle.cells.proofs.Pictures.{given_picture}
use Rattle.frame.proofs.Calls.{raster_held}
use Rattle.frame.proofs.Ready.{one_raster, raster_law}
use Rattle.frame.proofs.raster.Goals as goal

pub paint-requires : goal.paint-requires
paint-requires c =
    let s = c.in_ok-s.s in
    let room : s.n.0 ≤ length c.args.out.now = search rules in
    (given_picture c.args.g _ _ s (sym c.in_ok-s.ensures), rw (one_raster s.n.0 c.args.y.0) room, omega arith)

pub returns-clause-left : goal.returns-clause-left
returns-clause-left c =
    let s = c.in_ok-s.s in
    let here : c.args.y.0 < s.v.0 = search rules in
    let room : s.n.0 ≤ length c.args.out.now = search rules in
    raster_law c.args.g s _ _ _ _ c.args.y.0 room c.paint.ensures
    ∙ sym (raster_held c.args.g _ _ _ c.args.y.0 s (sym c.in_ok-s.ensures) here room)
