-- Each line is stored where those before it end, so that together they are the text.
use Prim.Native.Nat.{ℕ, ◌+◌}
use mathlib.Core.List.{List}
use mathlib.Core.Path.{refl, sym, ap, ◌∙◌}
use native.Mathlib.Omega.{arith}
use lib.ListN.{length}
use lib.Seq.{sets, length-sets}
use borrow.Author.Rules.{rules}
use Rattle.outputs.specs.Text.{lines_for}
use Rattle.outputs.proofs.Lines.{no_lines, length_next, all_lines, lines_room, lines_stored}
use Rattle.outputs.proofs.Texts.{line_given, put_back}
use Rattle.outputs.proofs.whole.put_lines.Goals as goal

pub loop-k-init : goal.loop-k-init
loop-k-init c =
    let p = c.args.p.now in
    let none = no_lines p.g p.video.now p.cursor.now in
    (sym (ap length none), rw none refl, search rules)

pub put_bytes-at-requires : goal.put_bytes-at-requires
put_bytes-at-requires c =
    let p = c.args.p.now in
    let l = c.loop-k in
    let line = ap length (line_given p.g p.video.now p.cursor.now l.k p.s p.accepted) in
    let room = lines_room p.g p.video.now p.cursor.now l.k (omega (arith, ap lines_for p.accepted, c.from-lines.ensures)) in
    rw (put_back _ _ _ _ c.picture_line-n.ensures)
    (omega (arith, room, line, c.requires, l.invariant.0, simp length-sets at (ap length l.invariant.1)))

pub loop-k-preserved : goal.loop-k-preserved
loop-k-preserved c =
    let p = c.args.p.now in
    let l = c.loop-k in
    let put = c.picture_line-n.ensures in
    let line = line_given p.g p.video.now p.cursor.now l.k p.s p.accepted in
    let back = put_back _ _ _ _ put ∙ sym line in
    let copied = c.put_bytes-at.ensures in
    let stored = copied.stored ∙ ap (sets l.out l.at) back in
    let after = copied.after ∙ ap (λ (t : List ℕ). l.at + length t) back in (
      omega (arith, length_next p.g p.video.now p.cursor.now l.k, after, l.invariant.0),
      lines_stored p.g p.video.now p.cursor.now c.args.out.now l.out _ l.k l.at l.invariant.1 l.invariant.0 stored,
      simp length-sets at (ap length put.stored) ∙ l.invariant.2,
    )

pub shape_of-out : goal.shape_of-out
shape_of-out c = simp length-sets at (ap length c.loop-k.invariant.1)

pub returns : goal.returns
returns c =
    let p = c.args.p.now in
    let l = c.loop-k in
    let all = all_lines p.g p.video.now p.cursor.now l.k (omega (arith, ap lines_for p.accepted, c.from-lines.ensures)) in
    l.invariant.1 ∙ ap (sets c.args.out.now 0) all
