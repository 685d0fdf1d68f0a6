-- The cursor's pairs between the border's start and end, painted where it is on in the raster: that covers what it covers, and no more.
use Rattle.std.proofs.Common.{◌≡◌, ◌*◌, sym, ◌∙◌, ◌-◌, min, inl, inr, arith}
use Rattle.buffers.proofs.Split.{lt_or_le}
use Rattle.frame.proofs.Pointer.{pair_small, pair_stored, pair_clear, pointed_rows, pairs_lie, unpointed_law, outside_law, cover_law}
use Rattle.frame.proofs.painter.Painter.cover.Goals as goal
use Rattle.frame.proofs.painter.Painter.cover.Goals.{then-p-ne0, else-p-ne0}

pub returns-then-not-pointed : goal.returns-then-not-pointed
returns-then-not-pointed c =
    unpointed_law c.args.self.now.s c.args.self.now.picture.accepted _ _ _ c.args.y.0 c.requires (sym c.pointed.ensures ∙ c.if-not-pointed.true)

pub pair-p-requires : goal.pair-p-requires
pair-p-requires c =
    let rows = pointed_rows c.args.self.now.s c.args.y.0 (sym c.pointed.ensures ∙ c.if-not-pointed.false) in
    omega (arith, pairs_lie c.args.y.0 c.args.self.now.picture rows.0 rows.1 rows.2, c.from-first.ensures, c.min-high.ensures)

pub offset_bounds-self-p : goal.offset_bounds-self-p
offset_bounds-self-p c =
    omega (arith, c.pair-p.ensures, pair_small c.args.self.now.cursor.now (2 * c.from-first.result) c.loop-i.i)

pub bounds-self-p : goal.bounds-self-p
bounds-self-p c =
    omega (arith, c.pair-p.ensures, pair_small c.args.self.now.cursor.now (2 * c.from-first.result) c.loop-i.i)

pub loop-i-preserved : goal.loop-i-preserved
loop-i-preserved c = let l = c.loop-i in (
  elim c.if-p-ne0.branch [
    | then-p-ne0 w ↦ rw w.out-is (pair_stored _ _ _ _ _ _ _ _ _ c.pair-p.ensures l.auto.i w.if-p-ne0.true (omega arith) l.invariant.0)
    | else-p-ne0 w ↦ rw w.out-is (pair_clear _ _ _ _ _ _ _ _ _ c.pair-p.ensures l.auto.i w.if-p-ne0.false l.invariant.0)
  ],
  omega arith,
)

pub returns : goal.returns
returns c =
    let s = c.args.self.now.s in
    let r = c.args.self.now.picture.accepted in
    let rows = pointed_rows s c.args.y.0 (sym c.pointed.ensures ∙ c.if-not-pointed.false) in
    let l = c.loop-i in
    let cx : c.from-start.result ≡ s.cx.0 = c.from-start.ensures in
    let low : c.from-low.result ≡ s.bs.0 - s.cx.0 = c.from-low.ensures ∙ c.width_from.ensures in
    let high : c.min-high.result ≡ min (s.be.0 - s.cx.0) 32 = omega (arith, c.min-high.ensures, c.from.ensures, c.width_from-2.ensures) in
    elim (lt_or_le c.from-low.result c.min-high.result) [
      | inl t ↦
          let i : l.i ≡ c.min-high.result = omega arith in
          cover_law s r _ _ _ c.args.y.0 c.requires _ _ low high _ t rows.0 rows.1 rows.2 rows.3 rows.4
          (rw (i, cx, c.from-first.ensures) at l.invariant.0)
      | inr t ↦
          let i : l.i ≡ c.from-low.result = l.invariant.1 t in
          outside_law s r _ _ _ c.args.y.0 c.requires _ _ low high _ _ _ t (rw i at l.invariant.0)
    ]
