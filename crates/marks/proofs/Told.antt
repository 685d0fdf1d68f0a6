-- What each call tells is its whole table judged.
use Prim.Native.Nat.{ℕ}
use mathlib.Core.List.{List}
use mathlib.Core.Path.{◌≡◌, refl}
use Rattle.refusals.specs.Table.{judged}
use Rattle.registers.specs.Setting.{setting_of}
use Rattle.registers.specs.declared.record.Registers.{Registers}
use Rattle.cells.specs.Picture.{picture_table}
use Rattle.marks.specs.Marks.{marks_of, marks_told}
use Rattle.marks.specs.Summaries.{summaries_table, summaries_told, replace_table, replace_told}

pub marks_told_holds : (g : Registers) (video cursor : List ℕ) (threshold : ℕ)
    → marks_told g video cursor threshold ≡ judged (picture_table g video cursor) (marks_of g (setting_of g) video cursor threshold)
unfolding marks_told
marks_told_holds g video cursor threshold = refl

module _ (g : Registers) (video cursor : List ℕ) where
  pub summaries_told_holds : (room : ℕ) → summaries_told g video cursor room ≡ judged (summaries_table g video cursor room) tt
  unfolding summaries_told
  summaries_told_holds room = refl

  pub replace_told_holds : (index room : ℕ) → replace_told g video cursor index room ≡ judged (replace_table g video cursor index room) tt
  unfolding replace_told
  replace_told_holds index room = refl
