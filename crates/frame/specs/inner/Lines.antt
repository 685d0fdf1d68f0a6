-- A line of the cells outside the display, as the painters make it ready. No public promise reaches this.
use Rattle.std.specs.Prelude.{ℕ, ◌<◌, Bool, ◌||◌, List, ◌≡◌, eqb, get_or}
use Rattle.registers.specs.declared.setting.Setting.{Setting}
use Rattle.frame.specs.inner.Ink.{edge_ink}

-- A line holds raster y's cells outside the display.
pub record Edged (s : Setting) (pens : List ℕ) (y : ℕ) (line : List ℕ) : Type 0 where
  pub held : (x : ℕ) → x < s.n.0 → get_or line x 0 ≡ edge_ink s pens y x

-- Only from these rasters on can such cells differ from those of the raster before.
abbrev pub anew : Setting → ℕ → ℕ → Bool
anew s first y = eqb y first || eqb y s.vs.0 || eqb y s.vbs.0 || eqb y s.vbe.0
