-- Laws of the lines of a text, one after another: none is empty but those after the last.
use Prim.Native.Nat.{ℕ, zero, suc, ◌+◌, ◌-◌, ◌/◌, ◌≤◌, ◌<◌}
use mathlib.Core.Path.{◌≡◌, refl, sym, ◌∙◌, ap}
use mathlib.Core.List.{List, [], ◌∷◌, ◌++◌}
use mathlib.Core.Logic.{inl, inr}
use native.Mathlib.Nat.{zero-add, suc-add}
use native.Mathlib.Numerals.{add-one}
use native.Mathlib.Omega.{arith}
use borrow.Author.Tests.{le-leb, ne_eqb}
use lib.ListN.{length, length-append}
use lib.Seq.{sets}
use Rattle.buffers.specs.Values.{values_from}
use Rattle.buffers.proofs.Sets.{sets_append}
use Rattle.buffers.proofs.Split.{lt_or_le}
use Rattle.refusals.specs.Table.{Why, Told, given, refused}
use Rattle.registers.specs.declared.record.Registers.{Registers}
use Rattle.registers.specs.declared.setting.Setting.{Setting}
use Rattle.frame.specs.Frame.{raster_cell}
use Rattle.outputs.specs.Runs.{line_of, runs_from}
use Rattle.cells.specs.Picture.{picture_told}
use Rattle.outputs.specs.Text.{pair_line, picture_head, head_line, refused_line, labelled, raster_line, picture_line}
use Rattle.outputs.specs.Text.{line_by, line_at, lines_for, first_lines, text_by, picture_text}
use Rattle.outputs.proofs.Given.{picture_accepted}
use Rattle.outputs.proofs.Texts.{no_more}

-- A list with a last byte has a byte.
ends : (l : List ℕ) (x : ℕ) → 1 ≤ length (l ++ (x ∷ []))
ends l x = rw length-append (omega arith)

some_line : (l : List ℕ) → 1 ≤ length (line_of l)
unfolding line_of
some_line [] = omega arith
some_line (x ∷ l) = ends (runs_from (x / 8192) 1 l) 10

some_head : (n v w m : ℕ) → 1 ≤ length (head_line n v w m)
unfolding head_line labelled
some_head n v w m = rw length-append (omega arith)

some_refused : (w : Why) → 1 ≤ length (refused_line w)
unfolding pair_line labelled
some_refused w = rw length-append (omega arith)

-- Of what is told of a picture.
module _ (g : Registers) (video cursor : List ℕ) where
  abbrev line : Told Setting → ℕ → List ℕ
  line t k = line_by g video cursor t k

  abbrev first : Told Setting → ℕ → List ℕ
  first t n = first_lines g video cursor t n

  some_picture : (s : Setting) (k : ℕ) → k ≤ s.v.0 → 1 ≤ length (picture_line g s video cursor k)
  unfolding picture_line raster_line picture_head
  some_picture s zero h = some_head _ _ _ _
  some_picture s (suc k) h =
      rw (ne_eqb (suc k) 0 (λ q. omega arith), le-leb (suc k) s.v.0 h)
      (some_line (values_from (raster_cell g s video cursor (suc k - 1)) 0 s.n.0))

  some_lines : (t : Told Setting) (k : ℕ) → k < lines_for t → 1 ≤ length (line t k)
  some_lines (given s) k h = some_picture s k (omega arith)
  some_lines (refused w) zero h = some_refused w
  some_lines (refused w) (suc k) h = absurd (omega arith)

  module _ (t : Told Setting) where
    length_by : (k : ℕ) → length (first t (k + 1)) ≡ length (first t k) + length (line t k)
    unfolding first_lines
    length_by k = rw add-one (length-append (first t k) (line t k))

    grows : (k n : ℕ) → length (first t k) ≤ length (first t (n + k))
    unfolding first_lines
    grows k zero = rw zero-add (omega arith)
    grows k (suc n) = rw (suc-add, length-append) (omega (arith, grows k n))

    -- Every line lies within the text.
    within : (k : ℕ) → k ≤ lines_for t → length (first t k) ≤ length (text_by g video cursor t)
    unfolding text_by
    within k h =
        let e : lines_for t - k + k ≡ lines_for t = omega arith in
        rw e at (grows k (lines_for t - k))

    room_by : (k : ℕ) → k ≤ lines_for t → length (first t k) + length (line t k) ≤ length (text_by g video cursor t)
    room_by k h = elim (lt_or_le k (lines_for t)) [
      | inl l ↦ omega (arith, length_by k, within (k + 1) (omega arith))
      | inr l ↦ omega (arith, ap length (no_more g video cursor t k l), within k h)
    ]

    some_by : 1 ≤ lines_for t → 1 ≤ length (text_by g video cursor t)
    some_by h = omega (arith, some_lines t 0 (omega arith), length_by 0, within 1 (omega arith))

  one_line : (t : Told Setting) → 1 ≤ lines_for t
  one_line (given s) = omega arith
  one_line (refused w) = omega arith

  -- A text has at least a byte.
  pub some_text : (t : Told Setting) → 1 ≤ length (text_by g video cursor t)
  some_text t = some_by t (one_line t)

  -- The lines of a record and its lists.
  abbrev told : Told Setting
  told = picture_told g video cursor

  abbrev lines : ℕ
  lines = lines_for told

  abbrev so_far : ℕ → List ℕ
  so_far k = first_lines g video cursor told k

  pub few_lines : lines ≤ 1025
  few_lines = go told refl
    where
      go : (t : Told Setting) → told ≡ t → lines_for t ≤ 1025
      go (given s) e = omega (arith, (picture_accepted g video cursor s e).v_most)
      go (refused w) e = omega arith

  -- A line that is none comes after the last,
  pub last_line : (k : ℕ) → k ≤ lines → length (line_at g video cursor k) ≡ 0 → k ≡ lines
  unfolding line_at
  last_line k h e = elim (lt_or_le k lines) [
    | inl l ↦ absurd (let s = some_lines told k l in omega arith)
    | inr l ↦ omega arith
  ]

  -- and one that is some before it.
  pub more_lines : (k : ℕ) → (length (line_at g video cursor k) ≡ 0 → ⊥) → k + 1 ≤ lines
  unfolding line_at
  more_lines k h = elim (lt_or_le k lines) [
    | inl l ↦ omega arith
    | inr l ↦ absurd (h (ap length (no_more g video cursor told k l)))
  ]

  -- A refusal is one line.
  pub refused_text : (w : Why) → told ≡ refused w → picture_text g video cursor ≡ refused_line w
  unfolding picture_text text_by first_lines
  refused_text w e = rw e

  pub no_lines : so_far 0 ≡ []
  unfolding first_lines
  no_lines = refl

  lines_next : (k : ℕ) → so_far (k + 1) ≡ so_far k ++ line_at g video cursor k
  unfolding first_lines line_at
  lines_next k = rw add-one

  pub length_next : (k : ℕ) → length (so_far (k + 1)) ≡ length (so_far k) + length (line_at g video cursor k)
  length_next k = rw lines_next (length-append (so_far k) (line_at g video cursor k))

  pub all_lines : (k : ℕ) → k ≡ lines → so_far k ≡ picture_text g video cursor
  unfolding picture_text text_by
  all_lines k e = ap so_far e

  pub lines_room : (k : ℕ) → k ≤ lines → length (so_far k) + length (line_at g video cursor k) ≤ length (picture_text g video cursor)
  unfolding line_at picture_text
  lines_room k h = room_by told k h

  -- One line more, stored after those before it.
  pub lines_stored : (o p q : List ℕ) (k at : ℕ) → p ≡ sets o 0 (so_far k) → at ≡ length (so_far k)
      → q ≡ sets p at (line_at g video cursor k) → q ≡ sets o 0 (so_far (k + 1))
  lines_stored o p q k at a b d =
      d ∙ (rw (a, b, lines_next) (sym (rw zero-add at (sets_append o 0 (so_far k) (line_at g video cursor k)))))
