-- The setting that a record describes, in the paper's letters, and the words that its frame needs.
use Rattle.std.specs.Prelude.{ℕ, ◌*◌, ◌-◌, ◌/◌, Bool, ltb}
use Rattle.buffers.specs.Pick.{pick}
use Rattle.registers.specs.Addresses.{HCR, HSWR, HBSR, HDSR, HDER, HBER, VCR, VSWR, VBSR, VDSR, VDER, VBER, VCSR, VCER}
use Rattle.registers.specs.Control.{depth_of, display_offset}
use Rattle.registers.specs.Geometry.{pixels_at, rasters_at, cursor_start, cursor_on}
use Rattle.registers.specs.declared.record.Registers.{Registers}
use Rattle.registers.specs.declared.setting.Setting.{Setting}

unfoldable pub setting_of : Registers → Setting
setting_of g =
    record {
      n = pixels_at g HCR 2;
      hs = pixels_at g HSWR 2;
      bs = pixels_at g HBSR 1;
      ds = pixels_at g HDSR (display_offset g);
      de = pixels_at g HDER (display_offset g);
      be = pixels_at g HBER 1;
      cx = cursor_start g;
      v = rasters_at g VCR;
      vs = rasters_at g VSWR;
      vbs = rasters_at g VBSR;
      vds = rasters_at g VDSR;
      vde = rasters_at g VDER;
      vbe = rasters_at g VBER;
      vcs = rasters_at g VCSR;
      vce = rasters_at g VCER;
      depth = depth_of g;
      cursor = cursor_on g;
    }

-- The display is on where it ends below its start; so is the border.
abbrev pub display_on : Setting → Bool
display_on s = ltb s.vds.0 s.vde.0

abbrev pub border_on : Setting → Bool
border_on s = ltb s.vbs.0 s.vbe.0

-- A displayed raster has (DE-DS)·d/32 words.
unfoldable pub raster_words : Setting → ℕ
raster_words s = (s.de.0 - s.ds.0) * s.depth / 32

-- The video words of a frame: d bits for every displayed position, none with the display off,
unfoldable pub video_words : Setting → ℕ
video_words s = pick (display_on s) ((s.de.0 - s.ds.0) * (s.vde.0 - s.vds.0) * s.depth / 32) 0

-- and 2·(VCE-VCS) cursor words, 0 if the cursor is off.
unfoldable pub cursor_words : Setting → ℕ
cursor_words s = pick s.cursor (2 * (s.vce.0 - s.vcs.0)) 0
