-- Pixel after pixel: after each turn the least and the greatest are those of the flagged ones so far.
use Rattle.std.proofs.Common.{◌≡◌, length}
use Rattle.marks.specs.Extremes.{least_of, greatest_of}
use Rattle.marks.specs.inner.Seen.{flagged_grey}
use Rattle.marks.proofs.extremes.entry_below.Given as goal

abbrev pub invariant-loop-grey : goal.invariant-loop-grey
invariant-loop-grey g l =
    (l.least ≡ least_of (flagged_grey l.greys l.flags 255) (length l.yielded))
    × (l.greatest ≡ greatest_of (flagged_grey l.greys l.flags 0) (length l.yielded))
