-- Two video lists that a frame cannot tell apart: all pixels 0, but at one position a pixel of one of two like entries.
use Rattle.std.specs.Prelude.{ℕ, ◌*◌, ◌/◌, ◌%◌, ◌^◌, ◌≤◌, ◌≡◌, List, length, set, replicate}
use Rattle.buffers.specs.Words.{Below}
use Rattle.registers.specs.Setting.{setting_of, video_words}
use Rattle.registers.specs.declared.record.Registers.{Registers}
use Rattle.registers.specs.declared.setting.Setting.{Setting}
use Rattle.cells.specs.Pixel.{position}
use Rattle.frame.specs.Frame.{cells}
use Rattle.claims.specs.Shown.{frame_in}
use Rattle.claims.specs.Calls.{Every}
use Rattle.claims.specs.Views as call
use Rattle.claims.specs.Framed.{On}

-- As many words as the setting asks for, all of them 0 but for pixel p at position x of raster y.
unfoldable pub one_pixel : Setting → ℕ → ℕ → ℕ → List ℕ
one_pixel s x y p =
    set (replicate (video_words s) 0) (position s x y * s.depth / 32) (p * 2 ^ (position s x y * s.depth % 32))

-- Two video lists that the frame call cannot tell apart.
pub record Confused (g : Registers) (cursor video other : List ℕ) : Type 0 where
  pub different : video ≡ other → ⊥
  pub video_size : length video ≡ video_words (setting_of g)
  pub other_size : length other ≡ video_words (setting_of g)
  pub video_words : Below (2 ^ 32) video
  pub other_words : Below (2 ^ 32) other
  pub one_frame : Every call.frame λ run. Every call.frame λ run'. On g video cursor run → On g other cursor run'
      → cells (setting_of g) ≤ length run.before → cells (setting_of g) ≤ length run'.before
      → frame_in (setting_of g) run.after ≡ frame_in (setting_of g) run'.after
