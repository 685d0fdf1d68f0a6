-- A cursor raster: nothing where it is not displayed; else a position more is its count more.
use Rattle.std.proofs.Common.{arith, ◌≡◌, ◌+◌, sym, ◌∙◌}
use borrow.Author.Tests.{ltb-true, leb-true}
use Rattle.registers.proofs.Order.{below, at_most}
use Rattle.marks.proofs.Covering.{raster_out}
use Rattle.marks.specs.inner.Bright.{raster_bright, cursor_raster}
use Rattle.marks.proofs.judged.Judged.covered_in.Goals as goal
use Rattle.marks.proofs.judged.Judged.covered_in.Goals.{then-lt-via-then-lt, then-lt-via-else-lt+then-le}

pub returns-then-lt : goal.returns-then-lt
returns-then-lt c =
    let s = c.args.self.now.s in
    let y = s.vcs.0 + c.args.j in (
      raster_out _ _ _ _ c.args.self.now.judged.accepted _
          (λ x d. elim c.then-lt.branch [
            | then-lt-via-then-lt w ↦
                let above = ltb-true y s.vds.0 (sym (below y s.vds.0) ∙ sym c.lt.ensures ∙ w.if-lt.true) in
                omega (arith, d.above, above)
            | then-lt-via-else-lt+then-le w ↦
                let under = leb-true s.vde.0 y (sym (at_most s.vde.0 y) ∙ sym w.le.ensures ∙ w.if-le.true) in
                omega (arith, d.below, under)
          ]),
      omega arith,
    )

pub returns : goal.returns
unfolding cursor_raster raster_bright
returns c =
    let e : c.loop-i.i ≡ 32 = omega arith in
    (rw e at c.loop-i.invariant.0, omega arith)
