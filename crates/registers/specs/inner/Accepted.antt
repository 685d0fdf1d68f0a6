-- What an accepted setting has, as the functions that make pictures ask for it. No public promise reaches these.
use Rattle.std.specs.Prelude.{ℕ, ◌*◌, ◌-◌, ◌%◌, ◌<◌, ◌≤◌, ◌≡◌, true, ◌⊎◌}
use Rattle.registers.specs.Setting.{display_on, border_on}
use Rattle.registers.specs.Rules.{Displayed}
use Rattle.registers.specs.declared.setting.Setting.{Setting}

-- One of the four depths.
abbrev pub Depth : ℕ → Type 0
Depth d = (d ≡ 1) ⊎ ((d ≡ 2) ⊎ ((d ≡ 4) ⊎ (d ≡ 8)))

pub record Accepted (s : Setting) : Type 0 where
  pub hs_bs : s.hs.0 ≤ s.bs.0
  pub bs_ds : s.bs.0 ≤ s.ds.0
  pub ds_de : s.ds.0 < s.de.0
  pub de_be : s.de.0 ≤ s.be.0
  pub be_n : s.be.0 ≤ s.n.0
  pub n_most : s.n.0 ≤ 2048
  pub v_most : s.v.0 ≤ 1024
  pub v_least : 1 ≤ s.v.0
  pub vde_most : s.vde.0 ≤ 1024
  pub vce_most : s.vce.0 ≤ 1024
  pub cx_most : s.cx.0 ≤ 2053
  pub depth : Depth s.depth
  pub whole : (s.de.0 - s.ds.0) * s.depth % 32 ≡ 0
  pub vs_v : s.vs.0 ≤ s.v.0
  pub display : display_on s ≡ true → Displayed s
  pub border : border_on s ≡ true → (s.vs.0 ≤ s.vbs.0) × (s.vbe.0 ≤ s.v.0)
  pub cursor : s.cursor ≡ true → s.vce.0 ≤ s.v.0
