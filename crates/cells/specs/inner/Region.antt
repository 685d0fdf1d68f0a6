-- Where a position lies, as the functions of the crates above ask it of each other; no public promise reaches this.
use Rattle.std.specs.Prelude.{ℕ, ◌+◌, ◌<◌, ◌≤◌, true, ◌≡◌}
use Rattle.registers.specs.declared.setting.Setting.{Setting}

-- A position is in a region: in its columns and in its rasters.
pub record Inside (from to first end x y : ℕ) : Type 0 where
  pub left : from ≤ x
  pub right : x < to
  pub above : first ≤ y
  pub below : y < end

abbrev pub InDisplay : Setting → ℕ → ℕ → Type 0
InDisplay s x y = Inside s.ds.0 s.de.0 s.vds.0 s.vde.0 x y

abbrev pub InBorder : Setting → ℕ → ℕ → Type 0
InBorder s x y = Inside s.bs.0 s.be.0 s.vbs.0 s.vbe.0 x y

-- A position that a cursor pair which is not 00 covers: the cursor is on and has it, and so has the border.
pub record Reached (s : Setting) (x y : ℕ) : Type 0 where
  pub on : s.cursor ≡ true
  pub border : InBorder s x y
  pub cursor : Inside s.cx.0 (s.cx.0 + 32) s.vcs.0 s.vce.0 x y
