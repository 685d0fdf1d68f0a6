-- Eight pixels of a word: after each turn the first i of them are read.
use Rattle.std.proofs.Common.{◌≡◌, ℕ, ◌+◌, ◌<◌, length, get_or}
use Rattle.frame.specs.inner.Ink.{word_ink}
use Rattle.frame.proofs.decode.eight.Given as goal

abbrev pub invariant-loop-i : goal.invariant-loop-i
invariant-loop-i g l = (length l.cells ≡ 8) × ((k : ℕ) → k < l.i → get_or l.cells k 0 ≡ word_ink l.table l.w g.row.PER (l.first + k))
