-- What the sync of a raster asks for, from a register record's numbers as they stand.
use Rattle.std.specs.Prelude.{ℕ, ◌-◌, ◌%◌, Bool, ◌&&◌, eqb, ltb, leb}
use Rattle.buffers.specs.Pick.{pick}
use Rattle.registers.specs.Setting.{setting_of, display_on}
use Rattle.registers.specs.declared.record.Registers.{Registers}
use Rattle.registers.specs.declared.setting.Setting.{Setting}

-- The cursor's first raster, and every second one after while it shows.
abbrev pub is_cursor_ask : Setting → ℕ → Bool
is_cursor_ask s y = s.cursor && leb s.vcs.0 y && ltb y s.vce.0 && eqb ((y - s.vcs.0) % 2) 0

-- The first displayed raster.
abbrev pub is_video_ask : Setting → ℕ → Bool
is_video_ask s y = display_on s && eqb y s.vds.0

-- Horizontal sync asks for four cursor words,
unfoldable pub cursor_ask : Registers → ℕ → ℕ
cursor_ask g y = pick (is_cursor_ask (setting_of g) y) 4 0

-- its end for eight video words.
unfoldable pub video_ask : Registers → ℕ → ℕ
video_ask g y = pick (is_video_ask (setting_of g) y) 8 0

-- What both ask of a queue, by its kind.
unfoldable pub sync_ask : Registers → ℕ → ℕ → ℕ
sync_ask g kind y = pick (eqb kind 0) (video_ask g y) (pick (eqb kind 1) (cursor_ask g y) 0)
