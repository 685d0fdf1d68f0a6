-- A picture that is given is counted.
use Rattle.std.proofs.Common.{sym, ◌∙◌, ap}
use Rattle.refusals.specs.Table.{given}
use Rattle.cells.proofs.Pictures.{given_picture}
use Rattle.marks.proofs.Answers.{marks_counted}
use Rattle.marks.proofs.marks.Goals as goal

pub invariant_of-picture : goal.invariant_of-picture
invariant_of-picture c = record { judged = given_picture c.args.g _ _ _ (sym c.in_ok-s.ensures) }

pub returns : goal.returns
returns c = ap given c.count.ensures ∙ sym (marks_counted c.args.g _ _ _ _ (sym c.in_ok-s.ensures))
