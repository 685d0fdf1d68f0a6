-- A pixel more is its entry more, and a byte has at most eight of them.
use Rattle.std.proofs.Common.{arith, ap, ◌∙◌, get_or, ◌≡◌, ◌/◌, ◌%◌, ◌*◌, ◌^◌}
use Rattle.marks.proofs.Totals.{sum_more}
use Rattle.marks.specs.inner.Bright.{byte_bright, field_bright}
use Rattle.marks.proofs.tables.in_byte.Goals as goal

pub loop-j-preserved : goal.loop-j-preserved
loop-j-preserved c =
    sum_more (field_bright c.args.pixels.now c.args.depth c.args.byte) c.loop-j.j c.loop-j.invariant
    (c.from-sum.ensures
    ∙ ap (λ p. get_or c.args.pixels.now p 0)
    (c.low_bits.ensures ∙ ap (λ n. n / 2 ^ (c.loop-j.j * c.args.depth) % 2 ^ c.args.depth) c.from-bits.ensures))

pub returns : goal.returns
unfolding byte_bright
returns c =
    let e : c.loop-j.j ≡ 8 / c.args.depth = omega arith in
    rw e at c.loop-j.invariant
