-- An entry more behind those that are put.
use Rattle.std.proofs.Common.{◌≡◌, arith}
use Rattle.buffers.proofs.Paints.{paints_painted}
use Rattle.marks.specs.Summaries.{displayed_rasters}
use Rattle.marks.specs.inner.Shown.{number_by}
use Rattle.marks.proofs.Put.{entry_put, number_by_holds}
use Rattle.marks.proofs.entries.put_entries.Goals as goal

pub loop-r-preserved : goal.loop-r-preserved
loop-r-preserved c =
    let l = c.loop-r in
    let t = c.args.tables.now.shades in
    let p = c.args.picture.now in
    let made = c.by_words in
    entry_put made.result l.r (number_by t.greys t.bright p.s p.video.now p.cursor.now)
    (omega (arith, c.requires.1, c.rasters-r-end.ensures)) l.invariant c.put_entry.ensures
    (λ k h. number_by_holds t.greys t.bright p.s p.video.now p.cursor.now made.result l.r k h made.ensures)

pub returns : goal.returns
returns c =
    let l = c.loop-r in
    let e : l.r ≡ displayed_rasters c.args.picture.now.s = omega (arith, c.rasters-r-end.ensures) in
    paints_painted {d = 0} c.requires.1 (rw e at l.invariant)
