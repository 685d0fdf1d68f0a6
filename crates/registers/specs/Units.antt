-- The data sheet's counts with their units: a pair count is a position in pixels, a vertical value a count of rasters.
use Rattle.std.specs.Prelude.{ℕ, ◌+◌, ◌*◌, ◌%◌}
use Rattle.registers.specs.declared.units.Pixels.{Pixels}
use Rattle.registers.specs.declared.units.Rasters.{Rasters}

-- A pair count is ten bits v; with its register's offset k it is the position 2v + k.
abbrev pub pixels_of : ℕ → ℕ → Pixels
pixels_of v k = record { 0 = 2 * (v % 1024) + k }

-- A vertical value is ten bits v, and stands for v + 1 rasters.
abbrev pub rasters_of : ℕ → Rasters
rasters_of v = record { 0 = v % 1024 + 1 }
