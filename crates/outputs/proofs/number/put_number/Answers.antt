-- Each turn stores a digit left of those that stand, which are the lowest.
use mathlib.Core.Path.{◌≡◌, sym}
use Prim.Native.Nat.{suc, ◌+◌, ◌-◌}
use native.Mathlib.Nat.{div-one}
use native.Mathlib.Omega.{arith}
use Rattle.outputs.specs.Decimal.{places, decimal}
use Rattle.outputs.proofs.Tens.{left_after, digit_more, digits_none}
use Rattle.outputs.proofs.number.put_number.Goals as goal

pub loop-k-init : goal.loop-k-init
loop-k-init c =
    let count = c.count_places-count.result in
    let none : count - count ≡ 0 = omega arith in
    record { left = rw none (sym (div-one c.args.n)); stored = rw none (sym (digits_none c.args.out.now _ c.args.n 0 (omega arith))) }

pub loop-k-preserved : goal.loop-k-preserved
loop-k-preserved c =
    let l = c.loop-k in
    let done = c.count_places-count.result - l.k in
    let next : c.count_places-count.result - (l.k - 1) ≡ suc done = omega arith in
    let place : c.args.at + l.k ≡ suc (c.args.at + (l.k - 1)) = omega arith in
    record {
      left = rw (l.invariant.left, next) (left_after c.args.n done);
      stored = rw (l.invariant.stored, l.invariant.left, next, place) (digit_more c.args.out.now _ c.args.n done);
    }

pub returns : goal.returns
unfolding decimal
returns c =
    let first : c.args.at + c.loop-k.k ≡ c.args.at = omega arith in
    let all : c.count_places-count.result - c.loop-k.k ≡ places c.args.n = omega arith in
    (omega arith, rw (first, all) at c.loop-k.invariant.stored)
