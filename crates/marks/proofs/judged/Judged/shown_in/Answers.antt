-- A position more is its pixel more, in the sum and among the flags.
use Rattle.std.proofs.Common.{arith, sym, ◌≡◌, ◌-◌}
use Rattle.marks.proofs.Showing.{shown_empty, shown_more, seen_more}
use Rattle.marks.proofs.Flags.{flagged_none}
use Rattle.marks.specs.inner.Seen.{only}
use Rattle.marks.proofs.judged.Judged.shown_in.Goals as goal

pub loop-p-init : goal.loop-p-init
loop-p-init c =
    let none = shown_empty c.args.self.now.s c.args.self.now.video.now c.args.self.now.cursor.now c.args.y.0 c.args.from in
    let n : c.args.from - c.args.from ≡ 0 = omega arith in
    (sym (none c.args.shades.now.bright _ n), omega arith, flagged_none _ _ (λ q l. none (only q) _ n))

pub loop-p-preserved : goal.loop-p-preserved
loop-p-preserved c =
    let l = c.loop-p in
    let more = c.shown_one-sum.ensures in
    (rw (l.invariant.0, more.0) (shown_more _ _ _ _ _ _ _ (omega arith)), omega arith, seen_more _ _ _ _ _ _ (omega arith) l.invariant.2 more.2)
