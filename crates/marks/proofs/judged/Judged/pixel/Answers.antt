-- A displayed position's pixel: it stands in the words, and is below 256.
use Rattle.std.proofs.Common.{refl}
use Rattle.marks.proofs.Covering.{position_small, pixel_room, pixel_entry}
use Rattle.marks.proofs.judged.Judged.pixel.Goals as goal

pub pixel_at-requires : goal.pixel_at-requires
pixel_at-requires c =
    let p = c.args.self.now.judged in
    rw (c.place.ensures, c.from.ensures) (
      p.accepted.depth,
      pixel_room _ _ _ p.accepted c.requires _ p.video_words,
      position_small _ _ _ p.accepted c.requires,
    )

pub returns : goal.returns
returns c =
    rw (c.pixel_at.ensures, c.from.ensures, c.place.ensures) (refl, pixel_entry _ _ _ c.args.self.now.judged.accepted)
