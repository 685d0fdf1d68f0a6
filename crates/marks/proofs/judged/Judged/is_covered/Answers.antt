-- Whether a displayed position is covered: it lies in the border, so where the cursor has it a pair other than 00 covers it.
use Rattle.std.proofs.Common.{sym, ◌∙◌}
use Rattle.marks.proofs.Showing.{outside_clear, pair_room, pair_covers}
use Rattle.marks.proofs.judged.Judged.is_covered.Goals as goal

pub returns-then-not-is_in_cursor : goal.returns-then-not-is_in_cursor
returns-then-not-is_in_cursor c = outside_clear _ _ _ _ (sym c.is_in_cursor.ensures ∙ c.if-not-is_in_cursor.true)

pub pair_at-requires : goal.pair_at-requires
pair_at-requires c =
    let p = c.args.self.now in
    rw (c.from-j.ensures, c.from-i.ensures)
    (pair_room _ p.cursor.now _ _ p.judged.accepted c.requires (sym c.is_in_cursor.ensures ∙ c.if-not-is_in_cursor.false) p.judged.cursor_words)

pub returns : goal.returns
returns c =
    pair_covers _ _ _ _ c.args.self.now.judged.accepted c.requires (sym c.is_in_cursor.ensures ∙ c.if-not-is_in_cursor.false)
    (rw (c.from-j.ensures, c.from-i.ensures) at c.pair_at.ensures)
