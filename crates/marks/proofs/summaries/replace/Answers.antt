-- The word is in its place, and the entry of its raster is that of the new list, which is as long as the old.
use Rattle.std.proofs.Common.{sym, arith}
use borrow.Author.Tests.{ltb-false, leb-false}
use Rattle.cells.proofs.Pictures.{given_picture}
use Rattle.marks.specs.Summaries.{raster_of}
use Rattle.marks.proofs.Calls.{replace_put}
use Rattle.marks.proofs.Put.{one_put}
use Rattle.marks.proofs.Replacing.{raster_some, word_displayed, replaced_picture}
use Rattle.marks.proofs.summaries.replace.Goals as goal

pub invariant_of-picture : goal.invariant_of-picture
invariant_of-picture c =
    record { judged = replaced_picture c.in_ok-s.s _ _ c.args.index c.args.word (given_picture c.args.g _ _ _ (sym c.in_ok-s.ensures)) }

pub nonzero_div-r : goal.nonzero_div-r
nonzero_div-r c =
    rw c.raster_words.ensures (raster_some c.in_ok-s.s (given_picture c.args.g _ _ _ (sym c.in_ok-s.ensures)).accepted)

pub by_pixels-requires : goal.by_pixels-requires
by_pixels-requires c =
    let s = c.in_ok-s.s in
    let p = given_picture c.args.g _ _ s (sym c.in_ok-s.ensures) in
    rw c.raster_words.ensures (word_displayed s p.accepted c.args.index (rw p.video_words at (leb-false _ _ c.in_ok-refuse_if.ensures)))

pub put_entry-requires : goal.put_entry-requires
put_entry-requires c =
    let s = c.in_ok-s.s in
    let p = given_picture c.args.g _ _ s (sym c.in_ok-s.ensures) in
    let r = word_displayed s p.accepted c.args.index (rw p.video_words at (leb-false _ _ c.in_ok-refuse_if.ensures)) in
    rw c.raster_words.ensures (omega (arith, r, ltb-false _ _ c.in_ok-refuse_if-2.ensures, c.from-rasters.ensures, c.height_from.ensures))

pub returns-clause-left : goal.returns-clause-left
returns-clause-left c =
    let s = c.in_ok-s.s in
    let told = sym c.in_ok-s.ensures in
    let p = given_picture c.args.g _ _ s told in
    let inside = leb-false _ _ c.in_ok-refuse_if.ensures in
    let room = rw (c.from-rasters.ensures, c.height_from.ensures) at (ltb-false _ _ c.in_ok-refuse_if-2.ensures) in
    let r = word_displayed s p.accepted c.args.index (rw p.video_words at inside) in
    let shades = c.of-shades.ensures in
    (replace_put c.args.g _ _ c.args.threshold _ c.args.index c.args.word s told inside _ room
    (one_put c.args.g s _ _ c.args.threshold _ _ p.accepted shades.greys shades.bright c.args.out.now c.by_pixels.result
    (raster_of s c.args.index) r room (rw c.raster_words.ensures at c.by_pixels.ensures)
    (rw c.raster_words.ensures at c.put_entry.ensures))).2
