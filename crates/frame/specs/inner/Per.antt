-- How many pixels a byte may have, as the painters ask it among themselves. No public promise reaches this.
use Rattle.std.specs.Prelude.{ℕ, ◌*◌, ◌/◌, ◌≤◌, ◌<◌, ◌≡◌}

-- So many pixels to a byte that a word's are whole eights.
pub record Per (per : ℕ) : Type 0 where
  pub some : 0 < per
  pub few : per ≤ 8
  pub even : per / 2 * 8 ≡ 4 * per
