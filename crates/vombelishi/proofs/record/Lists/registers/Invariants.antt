-- There are 64 flags, and each so far says whether its byte is not 0.
use Rattle.std.proofs.Common.{ℕ, ◌≡◌, ◌<◌, false, length, get_or}
use Rattle.vombelishi.specs.Record.{is_set}
use Rattle.vombelishi.proofs.record.Lists.registers.Given as goal

abbrev pub invariant-loop-k : goal.invariant-loop-k
invariant-loop-k l = record {
  long : length l.flag-items ≡ 64;
  each : (i : ℕ) → i < l.k → get_or l.flag-items i false ≡ is_set (get_or l.fn.self.written.now i 0);
}
