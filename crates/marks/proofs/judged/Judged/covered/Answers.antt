-- A cursor raster more is its count more; there are at most 1024 of them.
use Rattle.std.proofs.Common.{arith, ◌≡◌, ◌∙◌, ◌/◌, length}
use Rattle.marks.proofs.Covering.{covered_words}
use Rattle.marks.proofs.judged.Judged.covered.Goals as goal

pub returns : goal.returns
returns c =
    let e : c.loop-j.j ≡ length c.args.self.now.cursor.now / 2 = omega arith in
    (rw e at c.loop-j.invariant.0) ∙ covered_words _ _ _ _ c.args.self.now.judged.accepted c.args.self.now.judged.cursor_words
