-- Three numbers stored one behind another: places 3r, 3r + 1 and 3r + 2 hold the entry's, by their remainders.
use Rattle.marks.proofs.Put.{three_put}
use Rattle.marks.proofs.entries.put_entry.Goals as goal

pub returns : goal.returns
returns c = three_put _ _ _ c.requires
