-- A raster by whole words: those before and behind the cursor's part show what their pixels do, so all three sums are the raster's.
use Rattle.std.proofs.Common.{arith, refl}
use Rattle.marks.proofs.Extents.{entry_shown}
use Rattle.marks.proofs.Flags.{zeros_at}
use Rattle.marks.proofs.Parts.{part_inside}
use Rattle.marks.proofs.Showing.{raster_few}
use Rattle.marks.proofs.Spread.{raster_inside, row_parts, parts_shown, parts_seen}
use Rattle.marks.proofs.judged.Judged.by_words.Goals as goal

pub overflow_mul-from : goal.overflow_mul-from
overflow_mul-from c = rw c.from-per.ensures (omega (arith, part_inside _ c.args.self.now.judged.accepted c.cursor_part-part.ensures))

pub overflow_mul-to : goal.overflow_mul-to
overflow_mul-to c = rw c.from-per.ensures (omega (arith, part_inside _ c.args.self.now.judged.accepted c.cursor_part-part.ensures))

pub span-left-requires : goal.span-left-requires
span-left-requires c =
    let p = c.args.self.now.judged in
    let inside = c.cursor_part-part.ensures in
    let fits = raster_inside _ _ p c.requires.0 c.raster_words-words.ensures in
    let parts = row_parts _ c.args.r c.cursor_part-part.result p c.requires.0 c.raster_words-words.ensures inside in
    omega (arith, parts.0.len, inside.order, inside.inside, fits)

pub shown_in-middle-requires : goal.shown_in-middle-requires
shown_in-middle-requires c =
    let inside = part_inside _ c.args.self.now.judged.accepted c.cursor_part-part.ensures in
    rw c.from-per.ensures (omega arith, omega arith, inside.0, inside.1)

pub span-right-requires : goal.span-right-requires
span-right-requires c =
    let p = c.args.self.now.judged in
    let fits = raster_inside _ _ p c.requires.0 c.raster_words-words.ensures in
    let parts = row_parts _ c.args.r c.cursor_part-part.result p c.requires.0 c.raster_words-words.ensures c.cursor_part-part.ensures in
    omega (arith, parts.1.len, fits)

pub entry_of-requires : goal.entry_of-requires
entry_of-requires c =
    let p = c.args.self.now.judged in
    let t = c.args.tables.now in
    let e = c.raster_words-words.ensures in
    let inside = c.cursor_part-part.ensures in
    let parts = row_parts _ c.args.r c.cursor_part-part.result p c.requires.0 e inside in
    let sums = parts_shown _ p.accepted _ _ _ _ e _ inside parts.0 parts.1 _ _ (rw c.requires.1 at t.known.summed) c.span-left.ensures.0
    (rw c.from-per.ensures at c.shown_in-middle.ensures.0) c.span-right.ensures.0 in
    raster_few _ _ _ _ _ p.accepted t.shades.few sums

pub returns : goal.returns
returns c =
    let p = c.args.self.now.judged in
    let t = c.args.tables.now in
    let e = c.raster_words-words.ensures in
    let inside = c.cursor_part-part.ensures in
    let parts = row_parts _ c.args.r c.cursor_part-part.result p c.requires.0 e inside in
    let left = rw c.requires.1 at c.span-left.ensures in
    let middle = rw c.from-per.ensures at c.shown_in-middle.ensures in
    let right = rw c.requires.1 at c.span-right.ensures in
    let sums = parts_shown _ p.accepted _ _ _ _ e _ inside parts.0 parts.1 _ _ (rw c.requires.1 at t.known.summed) left.0 middle.0 right.0 in
    let seen = parts_seen _ p.accepted _ _ _ _ e _ inside parts.0 parts.1 left.2 middle.2 right.2 in
    entry_shown _ _ _ _ _ _ (zeros_at 256) refl seen sums c.entry_of.ensures
