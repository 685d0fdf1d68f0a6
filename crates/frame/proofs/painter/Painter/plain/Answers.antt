-- A raster with no cursor: its line, and where it is displayed the line's two ends with the display between them.
use Rattle.std.proofs.Common.{◌≡◌, ◌+◌, ◌-◌, ◌≤◌, ◌++◌, length, drop, refl, arith, rules, true, false}
use Rattle.cells.specs.Cell.{within}
use Rattle.frame.proofs.Parts.{part_long, part_copied, part_painted}
use Rattle.frame.proofs.Stretches.{displayed_law, undisplayed_law}
use Rattle.frame.specs.inner.Ink.{display_ink}
use Rattle.frame.proofs.painter.Painter.plain.Goals as goal

pub returns-then-not-contains : goal.returns-then-not-contains
returns-then-not-contains c =
    let s = c.args.self.now.s in
    let none : within s.vds.0 s.vde.0 c.args.y.0 ≡ false = search rules in
    undisplayed_law s c.args.self.now.picture.accepted _ _ _ _ _ c.requires _ none (rw c.from-n.ensures at c.copy_from_slice.ensures.after) (omega arith)

pub returns : goal.returns
returns c =
    let s = c.args.self.now.s in
    let r = c.args.self.now.picture.accepted in
    let rows : within s.vds.0 s.vde.0 c.args.y.0 ≡ true = search rules in
    let line = c.args.line.now in
    let ds = c.from-ds in
    let de = c.from-de in
    let n = c.from-n in
    let left =
    part_copied c.args.out.now c.copy_from_slice-2.new.self 0 ds.result 0 s.ds.0 refl (omega (arith, ds.ensures))
    (omega (arith, r.ds_de, r.de_be, r.be_n, c.requires)) line 0 c.copy_from_slice-2.ensures.after
    (omega (arith, r.ds_de, r.de_be, r.be_n, r.n_most, ds.ensures)) in
    let end : s.ds.0 + (de.result - ds.result) ≡ s.de.0 = omega (arith, r.ds_de, ds.ensures, de.ensures) in
    let p = c.copy_from_slice-2.new.self ++ drop ds.result c.args.out.now in
    let room : s.de.0 ≤ length p = omega (arith, left.len, r.de_be, r.be_n, c.requires) in
    let shown =
    part_painted p c.display.new.out ds.result (de.result - ds.result) s.ds.0 s.de.0 ds.ensures end room
    (display_ink s c.args.self.now.table.now c.args.self.now.video.now c.args.y.0) _ _
    (part_long p c.display.new.out ds.result (de.result - ds.result) s.ds.0 s.de.0 ds.ensures end room) c.display.ensures (λ j h. refl) in
    let right =
    part_copied _ c.copy_from_slice-3.new.self de.result (n.result - de.result) s.de.0 s.n.0 de.ensures
    (omega (arith, r.de_be, r.be_n, de.ensures, n.ensures)) (omega (arith, left.len, shown.len, c.requires)) line de.result
    c.copy_from_slice-3.ensures.after (omega (arith, r.de_be, r.be_n, r.n_most, de.ensures, n.ensures)) in
    displayed_law s r line _ _ c.args.y.0 c.args.out.now c.requires _ _ _ de.result de.ensures rows left shown right
