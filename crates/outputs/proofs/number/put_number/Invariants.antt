-- Each turn stores a digit left of those that stand, which are the lowest.
use Rattle.std.proofs.Common.{◌≡◌, ◌+◌, ◌-◌, ◌/◌, ◌^◌}
use lib.Seq.{sets}
use Rattle.outputs.specs.Decimal.{digits}
use Rattle.outputs.proofs.number.put_number.Given as goal

abbrev pub invariant-loop-k : goal.invariant-loop-k
invariant-loop-k l =
    record {
      left : l.left ≡ l.n / 10 ^ (l.count - l.k);
      stored : l.out ≡ sets l.initial.out (l.at + l.k) (digits l.n (l.count - l.k));
    }
