-- The test is the definition's; where it holds the colours are put, and else nothing is done.
use mathlib.Core.Bool.{true}
use mathlib.Core.Path.{◌∙◌}
use Rattle.pictures.proofs.Judged.{guns_folded, right_read, wrong_left}
use Rattle.pictures.proofs.read.colours.Goals as goal

pub returns-then-all_guns-bytes : goal.returns-then-all_guns-bytes
returns-then-all_guns-bytes c =
    let bytes = c.args.bytes.now in
    right_read bytes c.args.out.now _ (rw (c.all_guns.ensures ∙ guns_folded true bytes) at c.if-all_guns-bytes.true) c.put_colours.ensures

pub returns : goal.returns
returns c =
    let bytes = c.args.bytes.now in
    wrong_left bytes c.args.out.now (rw (c.all_guns.ensures ∙ guns_folded true bytes) at c.if-all_guns-bytes.false)
