-- A file that is no plate is refused with its reading, one that there is no room for with its copying; else the parts are those of its trailer.
use mathlib.Core.Path.{refl, ◌∙◌}
use native.Mathlib.Omega.{arith}
use Rattle.refusals.proofs.Told.{handed_on}
use Rattle.sheets.proofs.Sheets.{in_order, parts_are, take_unread, take_given}
use Rattle.sheets.proofs.take.Goals as goal

pub overflow_sub-result : goal.overflow_sub-result
overflow_sub-result c = (in_order c.args.file.now _ c.in_ok-sections.ensures).v_r

pub overflow_sub-result-2 : goal.overflow_sub-result-2
overflow_sub-result-2 c =
    let o = in_order c.args.file.now _ c.in_ok-sections.ensures in
    omega (arith, o.v_r, o.c_v)

pub overflow_sub-result-3 : goal.overflow_sub-result-3
overflow_sub-result-3 c =
    let o = in_order c.args.file.now _ c.in_ok-sections.ensures in
    omega (arith, o.v_r, o.c_v, o.s_c)

pub returns-in_err-sections-clause-told : goal.returns-in_err-sections-clause-told
returns-in_err-sections-clause-told c =
    handed_on _ _ c.from_residual.ensures.1 ∙ take_unread c.args.file.now c.args.words.now _ c.in_err-sections.ensures

pub returns-clause-told : goal.returns-clause-told
returns-clause-told c =
    take_given c.args.file.now _ _ c.in_ok-copy_out.ensures.told
    (parts_are c.args.file.now _ c.in_ok-sections.ensures _ refl refl refl refl)
