-- What a mixing call leaves that is not refused, two such calls on one raster, and one on a raster that the raster call painted.
use Rattle.std.specs.Prelude.{ℕ, ◌<◌, ◌≤◌, ◌≡◌, List, length, get_or, take}
use Rattle.registers.specs.Setting.{setting_of}
use Rattle.mixing.specs.Mix.{shown_over}
use Rattle.claims.specs.Views.{RasterRun, MixRun}

-- Every place by the one rule, a number of 12 bits, and all beyond as it was.
pub record Mixed (run : MixRun) : Type 0 where
  pub long : length run.after ≡ length run.before
  pub each : (x : ℕ) → x < (setting_of run.registers).n.0 → get_or run.after x 0 ≡ shown_over (get_or run.cells x 0) (get_or run.camera x 0)
  pub twelve_bits : (x : ℕ) → x < (setting_of run.registers).n.0 → get_or run.after x 0 < 4096
  pub beyond : (x : ℕ) → (setting_of run.registers).n.0 ≤ x → get_or run.after x 0 ≡ get_or run.before x 0

-- The mixed raster: the first N of what is left.
abbrev pub raster_in : MixRun → List ℕ
raster_in run = take (setting_of run.registers).n.0 run.after

-- Two calls on one record and one raster's cells, each with its own camera.
pub record SameRaster (one two : MixRun) : Type 0 where
  pub registers_are : two.registers ≡ one.registers
  pub cells_are : two.cells ≡ one.cells

-- A raster call, and a mixing call on the cells that it left.
pub record Overlaid (raster : RasterRun) (mix : MixRun) : Type 0 where
  pub registers_are : mix.registers ≡ raster.registers
  pub cells_are : mix.cells ≡ raster.after
