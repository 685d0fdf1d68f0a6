-- A picture that is given has room for its frame, and all its rasters are painted, which are the frame.
use Rattle.std.proofs.Common.{◌≤◌, length, sym, ◌∙◌, rules, arith}
use native.Mathlib.Nat.{sub-zero}
use Rattle.cells.proofs.Pictures.{given_picture}
use Rattle.frame.specs.Frame.{cells}
use Rattle.frame.proofs.Calls.{frame_held}
use Rattle.frame.proofs.Ready.{frame_law}
use Rattle.frame.proofs.frame.Goals as goal

pub paint-requires : goal.paint-requires
paint-requires c =
    let s = c.in_ok-s.s in
    let room : cells s ≤ length c.args.out.now = search rules in
    (given_picture c.args.g _ _ s (sym c.in_ok-s.ensures), rw (sub-zero s.v.0) room, omega arith)

pub returns-clause-left : goal.returns-clause-left
returns-clause-left c =
    let s = c.in_ok-s.s in
    let room : cells s ≤ length c.args.out.now = search rules in
    frame_law c.args.g s _ _ _ _ room c.paint.ensures ∙ sym (frame_held c.args.g _ _ _ s (sym c.in_ok-s.ensures) room)
