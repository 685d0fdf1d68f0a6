-- Both counts are tested as the rule says: each call tells how many words the setting needs.
use Rattle.cells.proofs.words_wrong.Goals as goal

pub returns : goal.returns
returns c = simp (c.video_words.ensures, c.cursor_words.ensures)
