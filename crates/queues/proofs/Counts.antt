-- What a queue's numbers allow: a full one is told by its words or its count, a word's place lies inside, nothing is taken of an empty one.
use Prim.Native.Nat.{ℕ, ◌+◌, ◌*◌, ◌^◌, ◌<◌, ◌≤◌}
use mathlib.Core.Bool.{false}
use mathlib.Core.Path.{◌≡◌}
use native.Mathlib.Omega.{arith}
use Rattle.std.proofs.lemmas.Bool.Decides.{nat_tests}
use Rattle.queues.specs.Queue.{queue_depth, around, Fit, is_full, is_empty}
use Rattle.queues.specs.Steps.{behind}
use Rattle.queues.specs.declared.Ring.{Ring}

-- A place past the end by less than a round is brought inside.
pub around_lt : (depth place : ℕ) → place < 2 * depth → around depth place < depth
around_lt depth place h = grind (arith, nat_tests)

module _ (r : Ring) where
  pub has_room_holds : is_full r ≡ false → r.held < queue_depth r.kind
  has_room_holds e = grind (arith, nat_tests)

  -- The place behind the last word lies inside, where there is room for one more.
  pub behind_lt : Fit r → is_full r ≡ false → behind r < 8
  behind_lt f e = omega (arith, around_lt (queue_depth r.kind) (r.place + r.held) (omega (arith, f.place, has_room_holds e)), f.deep)

  -- The count of a queue that is not full goes on by one.
  pub counts_on : is_full r ≡ false → r.count < 2 ^ 64 → r.count + 1 < 2 ^ 64
  counts_on e h = grind (arith, nat_tests)

  pub some_held : is_empty r ≡ false → 1 ≤ r.held
  some_held e = grind (arith, nat_tests)
