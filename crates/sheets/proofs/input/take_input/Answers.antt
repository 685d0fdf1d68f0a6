-- What is not too long has fewer words than there is room for, so that the room's own row never refuses.
use mathlib.Core.Path.{◌∙◌}
use borrow.Author.Rules.{rules}
use borrow.Author.Tests.{ltb-true, ltb-false}
use Rattle.refusals.proofs.Told.{handed_on}
use Rattle.sheets.proofs.Sheets.{too_large, input_same, input_taken}
use Rattle.sheets.proofs.input.take_input.Goals as goal

pub returns-in_err-refuse_if-clause-told : goal.returns-in_err-refuse_if-clause-told
returns-in_err-refuse_if-clause-told c =
    let wrong = c.in_err-refuse_if.ensures in
    handed_on _ _ c.from_residual.ensures.1
    ∙ rw wrong.1 (too_large c.args.file.now c.args.words.now (ltb-true _ _ wrong.0)).0

pub returns-in_err-refuse_if-clause-left : goal.returns-in_err-refuse_if-clause-left
returns-in_err-refuse_if-clause-left c =
    (too_large c.args.file.now c.args.words.now (ltb-true _ _ c.in_err-refuse_if.ensures.0)).1

pub returns-clause-told : goal.returns-clause-told
returns-clause-told c =
    c.take.ensures.told ∙ input_taken c.args.file.now c.args.words.now (ltb-false _ _ c.in_ok-refuse_if.ensures) (search rules)

pub returns-clause-left : goal.returns-clause-left
returns-clause-left c =
    rw (input_same c.args.file.now c.args.words.now (ltb-false _ _ c.in_ok-refuse_if.ensures) (search rules)) c.take.ensures.left
