-- Each turn adds one line's bytes.
use mathlib.Core.Path.{sym, ap, ◌∙◌}
use native.Mathlib.Omega.{arith}
use lib.ListN.{length}
use lib.Seq.{length-sets}
use borrow.Author.Rules.{rules}
use Rattle.outputs.specs.Text.{lines_for}
use Rattle.outputs.proofs.Lines.{few_lines, no_lines, length_next, all_lines}
use Rattle.outputs.proofs.Texts.{line_given}
use Rattle.outputs.proofs.whole.measure.Goals as goal

pub loop-k-init : goal.loop-k-init
loop-k-init c =
    let p = c.args.p.now in
    (sym (ap length (no_lines p.g p.video.now p.cursor.now)), omega arith, search rules)

pub overflow_add-total : goal.overflow_add-total
overflow_add-total c =
    let p = c.args.p.now in
    let l = c.loop-k in
    let few = few_lines p.g p.video.now p.cursor.now in
    omega (arith, c.picture_line-total.ensures.inside, l.invariant.1, l.invariant.2, few, ap lines_for p.accepted, c.from-lines.ensures)

pub loop-k-preserved : goal.loop-k-preserved
loop-k-preserved c =
    let p = c.args.p.now in
    let l = c.loop-k in
    let put = c.picture_line-total.ensures in
    let line = ap length (line_given p.g p.video.now p.cursor.now l.k p.s p.accepted) in (
      omega (arith, length_next p.g p.video.now p.cursor.now l.k, line, put.after, l.invariant.0),
      omega (arith, put.inside, l.invariant.1, l.invariant.2),
      simp length-sets at (ap length put.stored) ∙ l.invariant.2,
    )

pub returns : goal.returns
returns c =
    let p = c.args.p.now in
    let l = c.loop-k in
    l.invariant.0 ∙ ap length (all_lines p.g p.video.now p.cursor.now l.k (omega (arith, ap lines_for p.accepted, c.from-lines.ensures)))
