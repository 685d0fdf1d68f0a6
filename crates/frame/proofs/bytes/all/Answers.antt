-- Byte after byte: after each turn the table holds the cells of all bytes below b, each made from those of a byte before it.
use Rattle.std.proofs.Common.{◌≡◌, ◌+◌, ◌*◌, ◌-◌, ◌%◌, ◌^◌, get_or, refl, arith}
use Rattle.buffers.proofs.Paints.{paint_as, paint_more, paint_next, paints_painted}
use Rattle.frame.proofs.ByteCells.{one_shifted, low_bits, first_same, byte_cells}
use Rattle.frame.proofs.Parts.{part_filled}
use Rattle.frame.proofs.Words.{part_room}
use Rattle.frame.specs.inner.Ink.{bytes_ink}
use Rattle.frame.proofs.bytes.all.Goals as goal

pub loop-b-init : goal.loop-b-init
loop-b-init g c =
    let per = g.row.PER in
    paint_as (bytes_ink c.args.shades.now per g.row.D) (λ j a h. first_same c.args.shades.now per g.row.D j (omega arith))
    (part_filled c.args.table.now c.fill.new.self 0 per 0 (1 * per) refl (omega arith) (omega arith) _ (c.fill.ensures.after (λ y e. e)))

pub bounds-shades-b : goal.bounds-shades-b
bounds-shades-b g c = low_bits c.loop-b.b g.row.D c.requires.3

pub loop-i-preserved : goal.loop-i-preserved
loop-i-preserved g c =
    let l = c.loop-i in
    let at = c.loop-b.b * g.row.PER in
    let k : at + l.i - at ≡ l.i = omega arith in
    let n : at + l.i + 1 ≡ at + (l.i + 1) = omega arith in
    let room = part_room c.loop-b.b 256 g.row.PER c.loop-b-test.true in
    rw n at
    (paint_more {d = 0} {f = λ n. get_or c.loop-j.cells (n - at) 0} (get_or c.loop-j.cells l.i 0) (omega arith)
    (omega (arith, room, c.loop-b.invariant.len)) (rw k) l.invariant)

pub loop-b-preserved : goal.loop-b-preserved
loop-b-preserved g c =
    let l = c.loop-b in
    let per = g.row.PER in
    let d = g.row.D in
    let at = l.b * per in
    let next : at + per ≡ (l.b + 1) * per = omega arith in
    let e : c.loop-j.j ≡ per = omega arith in
    let f : c.loop-i.i ≡ per = omega arith in
    let right =
    byte_cells c.args.shades.now per d l.b (omega arith) c.requires.2 c.args.table.now l.table c.loop-j.cells (1 * 2 ^ d % 2 ^ 64)
    (one_shifted d c.requires.3) c.requires.1 l.invariant (rw e at c.loop-j.invariant) in
    let cells =
    paint_as (bytes_ink c.args.shades.now per d)
    (λ n a h. let k : at + (n - at) ≡ n = omega arith in rw k at (right (n - at) (omega arith))) (rw (f, next) at c.loop-i.invariant) in
    paint_next {d = 0} (omega arith) (omega arith) l.invariant cells

pub returns : goal.returns
returns g c =
    let e : c.loop-b.b ≡ 256 = omega arith in
    paints_painted {d = 0} (omega arith) (rw e at c.loop-b.invariant)
