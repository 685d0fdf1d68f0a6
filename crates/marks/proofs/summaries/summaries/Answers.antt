-- Where there is room, the entries are put by tables that hold what they should.
use Rattle.std.proofs.Common.{sym}
use borrow.Author.Tests.{ltb-false}
use Rattle.cells.proofs.Pictures.{given_picture}
use Rattle.marks.proofs.Calls.{summaries_put}
use Rattle.marks.proofs.Put.{all_put}
use Rattle.marks.proofs.summaries.summaries.Goals as goal

pub invariant_of-picture : goal.invariant_of-picture
invariant_of-picture c = record { judged = given_picture c.args.g _ _ _ (sym c.in_ok-s.ensures) }

pub of-requires : goal.of-requires
of-requires c = (given_picture c.args.g _ _ _ (sym c.in_ok-s.ensures)).accepted.depth

pub put_entries-requires : goal.put_entries-requires
put_entries-requires c = (c.of.ensures.depth, rw c.rasters.ensures at (ltb-false _ _ c.in_ok-refuse_if.ensures))

pub returns-clause-left : goal.returns-clause-left
returns-clause-left c =
    let s = c.in_ok-s.s in
    let told = sym c.in_ok-s.ensures in
    let room = rw c.rasters.ensures at (ltb-false _ _ c.in_ok-refuse_if.ensures) in
    let shades = c.of-shades.ensures in
    summaries_put c.args.g _ _ c.args.threshold _ s told _ room
    (all_put c.args.g s _ _ c.args.threshold _ _ (given_picture c.args.g _ _ _ told).accepted shades.greys shades.bright c.args.out.now room
    (rw c.of.ensures.shades at c.put_entries.ensures))
