-- The bytes of a word are flagged one after another.
use Rattle.marks.proofs.Spanned.{flagged_word}
use Rattle.marks.proofs.spans.flag_word.Goals as goal

pub returns : goal.returns
returns c =
    rw (c.from.ensures, c.from-2.ensures, c.from-3.ensures, c.from-4.ensures, c.to_le_bytes.ensures)
    (flagged_word c.args.flags.now c.args.word c.told-flags)
