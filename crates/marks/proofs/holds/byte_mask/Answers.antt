-- A pixel more is its bit more.
use Rattle.std.proofs.Common.{arith, ap, ◌∙◌, ◌≡◌, ◌/◌, ◌%◌, ◌*◌, ◌^◌}
use Rattle.marks.proofs.Held.{masked_none, byte_held}
use Rattle.marks.specs.Count.{total}
use Rattle.marks.specs.inner.Bright.{byte_bright}
use Rattle.marks.proofs.holds.byte_mask.Goals as goal

pub loop-j-init : goal.loop-j-init
unfolding total
loop-j-init c = masked_none

pub loop-j-preserved : goal.loop-j-preserved
loop-j-preserved c =
    byte_held _ _ _ _ _ c.requires.1
    (c.low_bits.ensures ∙ ap (λ n. n / 2 ^ (c.loop-j.j * c.args.depth) % 2 ^ c.args.depth) c.from-bits.ensures) c.loop-j.invariant

pub returns : goal.returns
unfolding byte_bright
returns c =
    let e : c.loop-j.j ≡ 8 / c.args.depth = omega arith in
    rw e at c.loop-j.invariant
