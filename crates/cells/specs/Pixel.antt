-- Logical pixels: where in the video words the bits of a display position stand, and where the cursor's pairs do.
use Rattle.std.specs.Prelude.{ℕ, ◌+◌, ◌*◌, ◌-◌, ◌/◌, ◌%◌, ◌^◌, List, get_or}
use Rattle.registers.specs.Setting.{raster_words}
use Rattle.registers.specs.declared.setting.Setting.{Setting}

-- Logical pixel i of the words ws at depth d.
unfoldable pub pixel : List ℕ → ℕ → ℕ → ℕ
pixel ws d i = get_or ws (i * d / 32) 0 / 2 ^ (i * d % 32) % 2 ^ d

-- Display positions are counted on from raster to raster.
abbrev pub position : Setting → ℕ → ℕ → ℕ
position s x y = (y - s.vds.0) * (s.de.0 - s.ds.0) + (x - s.ds.0)

abbrev pub logical : Setting → List ℕ → ℕ → ℕ → ℕ
logical s video x y = pixel video s.depth (position s x y)

-- The first word of a displayed raster.
unfoldable pub first_word : Setting → ℕ → ℕ
first_word s y = (y - s.vds.0) * raster_words s

-- Cursor pair i of raster y: each raster has two words, and each word sixteen pairs from its lowest bits on.
unfoldable pub cursor_pair : Setting → List ℕ → ℕ → ℕ → ℕ
cursor_pair s cursor y i = get_or cursor (2 * (y - s.vcs.0) + i / 16) 0 / 2 ^ (2 * (i % 16)) % 4
