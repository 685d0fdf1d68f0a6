-- Channel after channel: the first ones have their sixths.
use mathlib.Core.Path.{◌≡◌}
use Prim.Native.Nat.{ℕ, ◌<◌}
use lib.ListN.{length}
use Rattle.sound.specs.inner.Tables.{in_table, sixths_at}
use Rattle.sound.proofs.values.Channels.of.Given as goal

abbrev pub invariant-loop-channel : goal.invariant-loop-channel
invariant-loop-channel l = (length l.sixths ≡ 11) × ((n : ℕ) → n < l.channel → in_table l.sixths n ≡ sixths_at l.registers n)
