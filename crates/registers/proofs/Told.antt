-- What each call tells is its table judged, as it is defined.
use mathlib.Core.Path.{◌≡◌, refl, sym}
use mathlib.Core.List.{List, ◌++◌}
use Rattle.refusals.specs.Table.{given, Row, judged, and_then, Passes}
use Rattle.refusals.proofs.Tables.{passes_first, passes_given, and_then_judged}
use Rattle.registers.specs.Setting.{setting_of}
use Rattle.registers.specs.Check.{setting_table, check_told}
use Rattle.registers.specs.Sound.{sound_table, sound_told}
use Rattle.registers.specs.declared.record.Registers.{Registers}
use Rattle.registers.specs.declared.setting.Setting.{Setting}

module _ (g : Registers) where
  pub check_told_holds : check_told g ≡ judged (setting_table g) (setting_of g)
  unfolding check_told
  check_told_holds = refl

  -- a table that goes on behind the setting's
  pub check_then : {A : Type 0} (more : Setting → List Row) (a : Setting → A)
      → judged (setting_table g ++ more (setting_of g)) (a (setting_of g)) ≡ and_then (check_told g) (λ s. judged (more s) (a s))
  unfolding check_told
  check_then more a = sym (and_then_judged (setting_of g) (setting_table g) more a)

  pub check_passes : (more : List Row) → Passes (setting_table g ++ more) → check_told g ≡ given (setting_of g)
  unfolding check_told
  check_passes more p = passes_given (setting_of g) (setting_table g) (passes_first (setting_table g) more p)

  pub sound_told_holds : sound_told g ≡ judged (sound_table g) tt
  unfolding sound_told
  sound_told_holds = refl
