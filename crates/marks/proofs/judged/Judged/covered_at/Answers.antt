-- One position of a cursor raster: nothing where it is not displayed or its pair is 00, else what the table has for its pixel.
use Rattle.std.proofs.Common.{sym, ◌∙◌, ap, arith, get_or, ◌+◌}
use borrow.Author.Tests.{ltb-true, ltb-false, leb-true, leb-false}
use Rattle.registers.proofs.Order.{below, at_most}
use Rattle.marks.proofs.Covering.{cursor_out, cursor_clear, cursor_shown, pair_is, raster_displayed, raster_reached}
use Rattle.marks.proofs.judged.Judged.covered_at.Goals as goal
use Rattle.marks.proofs.judged.Judged.covered_at.Goals.{then-lt-via-then-lt, then-lt-via-else-lt+then-le, then-lt-via-else-lt+else-le+then-pair_at-eq0}

pub returns-then-lt : goal.returns-then-lt
returns-then-lt c =
    let s = c.args.self.now.s in
    let a = c.args.self.now.judged.accepted in
    let x = s.cx.0 + c.args.i in (
      elim c.then-lt.branch [
        | then-lt-via-then-lt w ↦
            let left = ltb-true x s.ds.0 (sym (below x s.ds.0) ∙ sym c.lt.ensures ∙ w.if-lt.true) in
            cursor_out _ _ _ _ a _ _ (λ d. omega (arith, d.left, left))
        | then-lt-via-else-lt+then-le w ↦
            let right = leb-true s.de.0 x (sym (at_most s.de.0 x) ∙ sym w.le.ensures ∙ w.if-le.true) in
            cursor_out _ _ _ _ a _ _ (λ d. omega (arith, d.right, right))
        | then-lt-via-else-lt+else-le+then-pair_at-eq0 w ↦
            cursor_clear _ _ _ _ a _ _ (pair_is _ _ _ _ ∙ sym w.pair_at.ensures ∙ w.if-pair_at-eq0.true)
      ],
      omega arith,
    )

pub returns : goal.returns
returns c =
    let p = c.args.self.now.judged in
    let left = ltb-false _ _ (sym (below _ _) ∙ sym c.lt.ensures ∙ c.if-lt.false) in
    let right = leb-false _ _ (sym (at_most _ _) ∙ sym c.le.ensures ∙ c.if-le.false) in
    let here = raster_displayed _ _ _ c.requires.0 _ left right in
    let reached = raster_reached _ _ _ c.requires.0 _ p c.requires.1 here in (
      c.from.ensures ∙ ap (λ q. get_or c.args.bright.now q 0) c.pixel.ensures.0
          ∙ cursor_shown _ _ _ _ p.accepted _ _ here reached
          (λ e. c.if-pair_at-eq0.false (c.pair_at.ensures ∙ sym (pair_is _ _ _ _) ∙ e)),
      omega (arith, c.from.ensures, c.fits-bright c.pixel.result),
    )
