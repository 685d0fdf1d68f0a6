-- What the two calls tell is their whole tables judged.
use Prim.Native.Nat.{ℕ}
use mathlib.Core.List.{List}
use mathlib.Core.Path.{◌≡◌, refl}
use Rattle.refusals.specs.Table.{judged}
use Rattle.registers.specs.declared.record.Registers.{Registers}
use Rattle.frame.specs.Frame.{frame_table, frame_told, raster_table, raster_told}

module _ (g : Registers) (video cursor : List ℕ) where
  pub frame_told_holds : (room : ℕ) → frame_told g video cursor room ≡ judged (frame_table g video cursor room) tt
  unfolding frame_told
  frame_told_holds room = refl

  pub raster_told_holds : (y room : ℕ) → raster_told g video cursor y room ≡ judged (raster_table g video cursor y room) tt
  unfolding raster_told
  raster_told_holds y room = refl
