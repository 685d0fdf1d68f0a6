-- A plate that is refused, or whose register words are, has one line, which says why; any other's text is that of its record and lists.
use Rattle.vombelishi.proofs.Text.{handed_err, text_untaken, text_unaccepted, text_held}
use Rattle.vombelishi.proofs.texts.taken.Goals as goal

pub returns-in_err-sheet : goal.returns-in_err-sheet
returns-in_err-sheet c = rw (handed_err _ _ c.from_residual.ensures.1) (text_untaken _ _ c.in_err-sheet.ensures.lists)

pub returns-in_err-load_and_check : goal.returns-in_err-load_and_check
returns-in_err-load_and_check c =
    rw (handed_err _ _ c.from_residual-in_err-load_and_check.ensures.1)
    (text_unaccepted _ _ c.in_ok-sheet.ensures.lists _ c.new-g.ensures _ c.in_err-load_and_check.ensures.told)

pub returns : goal.returns
returns c =
    text_held _ _ c.in_ok-sheet.ensures.lists _ c.new-g.ensures _ c.in_ok-load_and_check.ensures.told _ c.in_ok-load_and_check.ensures.left
