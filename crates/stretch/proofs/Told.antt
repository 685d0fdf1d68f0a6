-- What the search for a raster's words tells is its whole table judged.
use Prim.Native.Nat.{ℕ}
use mathlib.Core.List.{List}
use mathlib.Core.Path.{◌≡◌, refl}
use Rattle.refusals.specs.Table.{judged}
use Rattle.registers.specs.Setting.{setting_of}
use Rattle.registers.specs.declared.record.Registers.{Registers}
use Rattle.stretch.specs.Stretch.{stretch_of, stretch_table, stretch_told}

pub stretch_told_holds : (g : Registers) (video : List ℕ) (y : ℕ) → stretch_told g video y ≡ judged (stretch_table g video y) (stretch_of (setting_of g) y)
unfolding stretch_told
stretch_told_holds g video y = refl
