-- The text is stored whole or not at all, and a text has at least a byte: none stored is 13.
use Rattle.vombelishi.specs.Texts.{text_leaves}
use Rattle.vombelishi.proofs.Text.{told_short, told_given, left_short, left_given}
use Rattle.vombelishi.proofs.texts.vom_text.Goals as goal

pub returns-then-n-eq0 : goal.returns-then-n-eq0
unfolding text_leaves
returns-then-n-eq0 c =
    let put = c.put_text-n.ensures in
    let none = c.if-n-eq0.true in
    let told = told_short c.args.file.now _ _ _ put none in
    (rw told c.refused.ensures, rw told (left_short c.args.file.now _ _ _ put none), rw told)

pub returns : goal.returns
unfolding text_leaves
returns c =
    let put = c.put_text-n.ensures in
    let some = c.if-n-eq0.false in
    let told = told_given c.args.file.now _ _ _ put some in
    (rw told, rw told (left_given c.args.file.now _ _ _ put some), rw told)
