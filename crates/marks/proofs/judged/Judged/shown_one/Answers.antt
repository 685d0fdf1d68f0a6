-- Display position p: nothing where it is covered, else what the table has for its pixel.
use Rattle.std.proofs.Common.{arith, ap, ◌∙◌, get_or}
use Rattle.marks.proofs.Flags.{flagged_one}
use Rattle.marks.proofs.Showing.{shown_none, shown_some, shown_most, seen_none, seen_some}
use Rattle.marks.proofs.judged.Judged.shown_one.Goals as goal

pub returns-then-is_covered : goal.returns-then-is_covered
returns-then-is_covered c =
    let e = c.is_covered.ensures in
    (shown_none _ _ _ _ _ e _ c.if-is_covered.true, omega arith, seen_none _ _ _ _ _ e _ c.if-is_covered.true)

pub returns : goal.returns
returns c =
    let e = c.is_covered.ensures in
    let entry = c.from.ensures ∙ ap (λ p. get_or c.args.shades.now.bright p 0) c.pixel-pixel.ensures.0 in
    let shown = shown_some _ _ _ _ _ e _ c.if-is_covered.false entry in (
      shown,
      rw shown (shown_most _ _ _ _ _ _ c.args.shades.now.few),
      seen_some _ _ _ _ _ e c.if-is_covered.false
          (rw (← c.pixel-pixel.ensures.0) (flagged_one c.args.flags.now _ c.told-flags c.pixel-pixel.ensures.1)),
    )
