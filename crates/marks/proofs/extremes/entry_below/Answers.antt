-- A pixel more is its grey more among those that are flagged.
use Rattle.std.proofs.Common.{take, rules, length, ◌≡◌, ◌∙◌, sym, get_or, get_or-take, arith, ◌<◌}
use Rattle.std.proofs.lemmas.Slice.Zip.{zip_turn}
use Rattle.std.proofs.lemmas.List.{length_push}
use Rattle.marks.specs.inner.Seen.{flagged_grey}
use Rattle.marks.proofs.Least.{least_more, greatest_more, flag_clear, flag_set}
use Rattle.marks.proofs.extremes.entry_below.Goals as goal
use Rattle.marks.proofs.extremes.entry_below.Goals.{then-flag-eq0, else-flag-eq0, then-flag-eq0-2, else-flag-eq0-2}

pub loop-grey-preserved : goal.loop-grey-preserved
loop-grey-preserved g c =
    let greys = c.args.greys.now in
    let flags = c.args.flags.now in
    let end = g.row.END in
    let t = zip_turn (take end greys) (take end flags) c.loop-grey.yielded c.into_iter-grey-iterator.result c.loop-grey.grey-iterator
    c.next.new.self c.next.result (search rules) (search rules) c.loop-grey.yielded_by _ c.in-Some.is c.next.ensures.steps in
    let q = length c.loop-grey.yielded in
    let here : q < end = omega (arith, t.0) in
    let grey : c.in-Some.field-0-0.now ≡ get_or greys q 0 = t.2 0 ∙ get_or-take end greys q 0 here in
    let flag : c.in-Some.field-0-1.now ≡ get_or flags q 0 = t.3 0 ∙ get_or-take end flags q 0 here in
    let low : c.if-flag-eq0.min ≡ flagged_grey greys flags 255 q =
    elim c.if-flag-eq0.branch [
      | then-flag-eq0 w ↦ w.min-is ∙ flag_clear greys flags 255 q (sym flag ∙ w.if-flag-eq0.true)
      | else-flag-eq0 w ↦ w.min-is ∙ grey ∙ flag_set greys flags 255 q (λ z. w.if-flag-eq0.false (flag ∙ z))
    ] in
    let high : c.if-flag-eq0-2.max ≡ flagged_grey greys flags 0 q =
    elim c.if-flag-eq0-2.branch [
      | then-flag-eq0-2 w ↦ w.max-is ∙ flag_clear greys flags 0 q (sym flag ∙ w.if-flag-eq0-2.true)
      | else-flag-eq0-2 w ↦ w.max-is ∙ grey ∙ flag_set greys flags 0 q (λ z. w.if-flag-eq0-2.false (flag ∙ z))
    ] in
    rw length_push (
      c.min-least.ensures ∙ least_more _ q c.loop-grey.invariant.0 low,
      c.max-greatest.ensures ∙ greatest_more _ q c.loop-grey.invariant.1 high,
    )
