-- At depth 8 the flags, at the others the masks: either tells of the pixels of the words, and each word adds at most 1020 to the sum.
use Rattle.frame.proofs.Words.{depth_few}
use Rattle.marks.proofs.Masks.{bytes_most}
use Rattle.marks.proofs.Spanned.{span_most, eight_flagged, masked_flagged}
use Rattle.marks.proofs.tables.Tables.span.Goals as goal

pub flagged_span-requires : goal.flagged_span-requires
flagged_span-requires c = (bytes_most _ _ c.args.self.now.shades.few c.args.self.now.known.summed, c.requires)

pub returns-then-self-eq8 : goal.returns-then-self-eq8
returns-then-self-eq8 c =
    let t = c.args.self.now in
    let e = c.flagged_span.ensures in (
      e.0,
      span_most t.sums c.args.words.now _ (bytes_most _ _ t.shades.few t.known.summed) c.requires e.0,
      rw c.if-self-eq8.true (eight_flagged c.args.words.now _ e.1),
    )

pub masked_span-count-requires : goal.masked_span-count-requires
masked_span-count-requires c = (bytes_most _ _ c.args.self.now.shades.few c.args.self.now.known.summed, c.requires)

pub returns : goal.returns
returns c =
    let t = c.args.self.now in
    let e = c.masked_span-count.ensures in
    let l = depth_few t.known.depth c.if-self-eq8.false in (
      e.0,
      span_most t.sums c.args.words.now _ (bytes_most _ _ t.shades.few t.known.summed) c.requires e.0,
      masked_flagged _ t.masks c.args.words.now _ l (t.known.held l) e.1 c.flag_mask.ensures,
    )
