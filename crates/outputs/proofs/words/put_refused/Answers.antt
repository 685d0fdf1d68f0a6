-- A refusal's number and detail are those of its row.
use Rattle.outputs.proofs.words.put_refused.Goals as goal

pub returns : goal.returns
returns c =
    let number = c.number in
    let detail = c.detail in
    let put_pair = c.put_pair in
    rw (← number.ensures, ← detail.ensures) put_pair.ensures
