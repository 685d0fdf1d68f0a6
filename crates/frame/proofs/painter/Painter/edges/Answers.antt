-- A raster's cells outside the display, filled from left to right: sync, blank, the border where the raster has one, blank.
use Rattle.std.proofs.Common.{◌≡◌, ◌-◌, ◌<◌, ◌≤◌, refl, arith, rules, true, false}
use Rattle.cells.specs.Cell.{within}
use Rattle.cells.proofs.Regions.{within_true}
use Rattle.frame.proofs.Parts.{part_filled}
use Rattle.frame.proofs.Edges.{blank_line, bordered_line}
use Rattle.frame.proofs.painter.Painter.edges.Goals as goal

pub returns-then-contains : goal.returns-then-contains
returns-then-contains c =
    let s = c.args.self.now.s in
    let r = c.args.self.now.picture.accepted in
    let rows : within s.vbs.0 s.vbe.0 c.args.y.0 ≡ true = search rules in
    let inside : (s.vbs.0 ≤ c.args.y.0) × (c.args.y.0 < s.vbe.0) = within_true s.vbs.0 s.vbe.0 c.args.y.0 rows in
    let sync =
    part_filled c.args.line.now c.fill.new.self 0 c.from.result 0 s.hs.0 refl (omega (arith, c.from.ensures))
    (omega (arith, r.hs_bs, r.bs_ds, r.ds_de, r.de_be, r.be_n, r.n_most)) _ (c.fill.ensures.after (λ y e. e)) in
    let before =
    part_filled _ c.fill-then-contains.new.self c.from-then-contains.result (c.from-then-contains-2.result - c.from-then-contains.result)
    s.hs.0 s.bs.0 c.from-then-contains.ensures (omega (arith, r.hs_bs, c.from-then-contains.ensures, c.from-then-contains-2.ensures))
    (omega (arith, sync.len, r.bs_ds, r.ds_de, r.de_be, r.be_n, r.n_most)) _ (c.fill-then-contains.ensures.after (λ y e. e)) in
    let border =
    part_filled _ c.fill-then-contains-2.new.self c.from-then-contains-3.result (c.from-then-contains-4.result - c.from-then-contains-3.result)
    s.bs.0 s.be.0 c.from-then-contains-3.ensures
    (omega (arith, r.bs_ds, r.ds_de, r.de_be, c.from-then-contains-3.ensures, c.from-then-contains-4.ensures))
    (omega (arith, sync.len, before.len, r.be_n, r.n_most)) _ (c.fill-then-contains-2.ensures.after (λ y e. e)) in
    let after =
    part_filled _ c.fill-then-contains-3.new.self c.from-then-contains-5.result (c.from-then-contains-6.result - c.from-then-contains-5.result)
    s.be.0 s.n.0 c.from-then-contains-5.ensures (omega (arith, r.be_n, c.from-then-contains-5.ensures, c.from-then-contains-6.ensures))
    (omega (arith, sync.len, before.len, border.len, r.n_most)) _ (c.fill-then-contains-3.ensures.after (λ y e. e)) in
    bordered_line s r c.args.self.now.pens.now _ c.args.y.0 _ (omega arith) c.blank-empty.ensures _ _ _ _ inside.0 inside.1 sync before border after

pub returns : goal.returns
returns c =
    let s = c.args.self.now.s in
    let r = c.args.self.now.picture.accepted in
    let none : within s.vbs.0 s.vbe.0 c.args.y.0 ≡ false = search rules in
    let sync =
    part_filled c.args.line.now c.fill.new.self 0 c.from.result 0 s.hs.0 refl (omega (arith, c.from.ensures))
    (omega (arith, r.hs_bs, r.bs_ds, r.ds_de, r.de_be, r.be_n, r.n_most)) _ (c.fill.ensures.after (λ y e. e)) in
    let rest =
    part_filled _ c.fill-2.new.self c.from-2.result (c.from-3.result - c.from-2.result) s.hs.0 s.n.0 c.from-2.ensures
    (omega (arith, r.hs_bs, r.bs_ds, r.ds_de, r.de_be, r.be_n, c.from-2.ensures, c.from-3.ensures))
    (omega (arith, sync.len, r.n_most)) _ (c.fill-2.ensures.after (λ y e. e)) in
    blank_line s r c.args.self.now.pens.now _ c.args.y.0 _ (omega arith) c.blank-empty.ensures _ _ none sync rest
