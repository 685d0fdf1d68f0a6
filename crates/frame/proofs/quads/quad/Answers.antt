-- Four cells added: each stands in 16 bits of its own, so that the sum fits and each is read back.
use Rattle.std.proofs.Common.{arith}
use Rattle.frame.proofs.QuadCells.{four_added, quad_cells}
use Rattle.frame.proofs.quads.quad.Goals as goal

pub overflow_add-result-2 : goal.overflow_add-result-2
overflow_add-result-2 c =
    let f = four_added c.args.quads.now c.requires c.args.w c.to_le_bytes.result c.to_le_bytes.ensures in
    rw (c.from.ensures, c.from-2.ensures)
    (record { fits = omega (arith, f.lowest, f.place_1, f.place_2, f.place_3, f.small_0, f.small_1, f.small_2, f.small_3) })

pub overflow_add-result-4 : goal.overflow_add-result-4
overflow_add-result-4 c =
    let f = four_added c.args.quads.now c.requires c.args.w c.to_le_bytes.result c.to_le_bytes.ensures in
    rw (c.from.ensures, c.from-2.ensures, c.from-3.ensures)
    (record { fits = omega (arith, f.lowest, f.place_1, f.place_2, f.place_3, f.small_0, f.small_1, f.small_2, f.small_3) })

pub overflow_add-result-6 : goal.overflow_add-result-6
overflow_add-result-6 c =
    let f = four_added c.args.quads.now c.requires c.args.w c.to_le_bytes.result c.to_le_bytes.ensures in
    rw (c.from.ensures, c.from-2.ensures, c.from-3.ensures, c.from-4.ensures)
    (record { fits = omega (arith, f.lowest, f.place_1, f.place_2, f.place_3, f.small_0, f.small_1, f.small_2, f.small_3) })

pub returns : goal.returns
returns c =
    let f = four_added c.args.quads.now c.requires c.args.w c.to_le_bytes.result c.to_le_bytes.ensures in
    rw (c.from.ensures, c.from-2.ensures, c.from-3.ensures, c.from-4.ensures)
    (quad_cells c.args.quads.now c.requires c.args.w _ (omega (arith, f.lowest, f.place_1, f.place_2, f.place_3)))
