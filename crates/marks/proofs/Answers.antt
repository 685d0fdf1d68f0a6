-- What the mark count tells, from what the judged picture tells: the picture's refusal, or the count.
use Prim.Native.Nat.{ℕ}
use mathlib.Core.List.{List}
use mathlib.Core.Path.{◌≡◌, ◌∙◌}
use Rattle.refusals.specs.Table.{given, and_then}
use Rattle.registers.specs.Setting.{setting_of}
use Rattle.registers.specs.declared.record.Registers.{Registers}
use Rattle.registers.specs.declared.setting.Setting.{Setting}
use Rattle.cells.specs.Picture.{picture_told}
use Rattle.cells.proofs.Pictures.{picture_for, picture_setting}
use Rattle.marks.specs.Marks.{marks_of, marks_told}
use Rattle.marks.proofs.Told.{marks_told_holds}

module _ (g : Registers) (video cursor : List ℕ) (threshold : ℕ) where
  pub marks_then : marks_told g video cursor threshold
      ≡ and_then (picture_told g video cursor) (λ s. given (marks_of g (setting_of g) video cursor threshold))
  marks_then = marks_told_holds g video cursor threshold ∙ picture_for g video cursor (marks_of g (setting_of g) video cursor threshold)

  -- A picture that is given has its count.
  pub marks_counted : (s : Setting) → picture_told g video cursor ≡ given s
      → marks_told g video cursor threshold ≡ given (marks_of g s video cursor threshold)
  marks_counted s e = rw (marks_then, e, ← picture_setting g video cursor s e)
