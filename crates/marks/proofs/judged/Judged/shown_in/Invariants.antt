-- Display positions one after another: after each turn the sum, and the pixels flagged, are those of the positions before p.
use Rattle.std.proofs.Common.{◌≡◌, ◌≤◌, ◌-◌}
use Rattle.marks.specs.inner.Seen.{Flagged}
use Rattle.marks.specs.inner.Shown.{shown_total, seen_from}
use Rattle.marks.proofs.judged.Judged.shown_in.Given as goal

abbrev pub invariant-loop-p : goal.invariant-loop-p
invariant-loop-p l =
    (l.sum ≡ shown_total l.self.s l.self.video.now l.self.cursor.now l.shades.bright l.y.0 l.from (l.p - l.from)) × (l.sum ≤ l.p - l.from)
    × Flagged l.initial.flags l.flags (seen_from l.self.s l.self.video.now l.self.cursor.now l.y.0 l.from (l.p - l.from))
