-- The raster is painted into memory that is always long enough, and its cells are the first N.
use Prim.Native.Nat.{◌≤◌}
use native.Mathlib.Omega.{arith}
use borrow.Author.Rules.{rules}
use lib.ListN.{length}
use mathlib.Core.Path.{refl, ◌∙◌}
use Rattle.std.specs.Prelude.{Ok}
use Rattle.refusals.proofs.Told.{same_told}
use Rattle.frame.proofs.Calls.{raster_given}
use Rattle.outputs.proofs.Given.{picture_accepted, raster_values}
use Rattle.outputs.proofs.picture.Picture.raster.Goals as goal

pub unwrap-requires : goal.unwrap-requires
unwrap-requires c =
    let p = c.args.self.now in
    let long : 2048 ≤ length c.args.room.now = search rules in
    let fits = (picture_accepted p.g p.video.now p.cursor.now p.s p.accepted).n_most in
    rw (same_told _ (Ok tt)
    (c.raster.ensures.told
    ∙ raster_given p.g p.video.now p.cursor.now c.args.room.now c.args.y.0 p.s p.accepted c.requires (omega (arith, fits, long)))) refl

pub shared_ref_as_front-result : goal.shared_ref_as_front-result
shared_ref_as_front-result c =
    let p = c.args.self.now in
    omega (arith, (picture_accepted p.g p.video.now p.cursor.now p.s p.accepted).n_most, c.from.ensures)

pub returns : goal.returns
returns c =
    let p = c.args.self.now in
    let long : 2048 ≤ length c.args.room.now = search rules in
    let fits = (picture_accepted p.g p.video.now p.cursor.now p.s p.accepted).n_most in
    rw c.from.ensures
    (raster_values p.g p.video.now p.cursor.now p.s p.accepted c.args.y.0 _ c.raster.new.out c.requires (omega (arith, fits, long)) c.raster.ensures.left)
