-- What a frame call is asked, when it is asked rightly, and what it then leaves; and of one raster.
use Rattle.std.specs.Prelude.{ℕ, ◌/◌, ◌%◌, ◌<◌, ◌≤◌, ◌≡◌, List, length, get_or}
use Rattle.refusals.specs.Table.{given}
use Rattle.registers.specs.Setting.{setting_of}
use Rattle.registers.specs.declared.record.Registers.{Registers}
use Rattle.cells.specs.Cell.{cell}
use Rattle.cells.specs.Picture.{picture_told}
use Rattle.frame.specs.Frame.{cells}
use Rattle.claims.specs.Views.{FrameRun}

-- The call was asked this.
pub record On (g : Registers) (video cursor : List ℕ) (run : FrameRun) : Type 0 where
  pub registers_are : run.registers ≡ g
  pub video_is : run.video ≡ video
  pub cursor_is : run.cursor ≡ cursor

-- A picture that is not refused: its setting is accepted, and its lists are of the sizes that it asks for; and room for N·V cells.
pub record Right (g : Registers) (video cursor before : List ℕ) : Type 0 where
  pub picture : picture_told g video cursor ≡ given (setting_of g)
  pub room : cells (setting_of g) ≤ length before

-- What lent memory holds after a frame call that is not refused.
pub record Framed (g : Registers) (video cursor before after : List ℕ) : Type 0 where
  pub long : length after ≡ length before
  pub each : (k : ℕ) → k < cells (setting_of g)
      → get_or after k 0 ≡ cell g (setting_of g) video cursor (k % (setting_of g).n.0) (k / (setting_of g).n.0)
  pub beyond : (k : ℕ) → cells (setting_of g) ≤ k → get_or after k 0 ≡ get_or before k 0

-- And after a raster call.
pub record Rastered (g : Registers) (video cursor : List ℕ) (y : ℕ) (before after : List ℕ) : Type 0 where
  pub long : length after ≡ length before
  pub each : (x : ℕ) → x < (setting_of g).n.0 → get_or after x 0 ≡ cell g (setting_of g) video cursor x y
  pub beyond : (x : ℕ) → (setting_of g).n.0 ≤ x → get_or after x 0 ≡ get_or before x 0
