-- Every rule of a list and of a setting as a plain fact, in the paper's words. A list is accepted exactly when it can be loaded and its record keeps
-- every rule.
use Rattle.std.specs.Prelude.{ℕ, ◌*◌, ◌-◌, ◌%◌, ◌<◌, ◌≤◌, ◌≡◌, true, false, List, ◌⊎◌, length, get_or}
use Rattle.registers.specs.Control.{control, pixel_rate, interlace_field, test_field}
use Rattle.registers.specs.Geometry.{sub_position}
use Rattle.registers.specs.Record.{slot_of, reserved, written_in}
use Rattle.registers.specs.Setting.{setting_of}
use Rattle.registers.specs.Needed.{needed}
use Rattle.registers.specs.declared.record.Registers.{Registers}
use Rattle.registers.specs.declared.setting.Setting.{Setting}

-- HS ≤ BS ≤ DS < DE ≤ BE ≤ N.
pub record Horizontal (s : Setting) : Type 0 where
  pub hs_bs : s.hs.0 ≤ s.bs.0
  pub bs_ds : s.bs.0 ≤ s.ds.0
  pub ds_de : s.ds.0 < s.de.0
  pub de_be : s.de.0 ≤ s.be.0
  pub be_n : s.be.0 ≤ s.n.0

-- VS ≤ VBS ≤ VDS < VDE ≤ VBE ≤ V.
pub record Displayed (s : Setting) : Type 0 where
  pub vs_vbs : s.vs.0 ≤ s.vbs.0
  pub vbs_vds : s.vbs.0 ≤ s.vds.0
  pub vds_vde : s.vds.0 < s.vde.0
  pub vde_vbe : s.vde.0 ≤ s.vbe.0
  pub vbe_v : s.vbe.0 ≤ s.v.0

-- VS ≤ VBS < VBE ≤ V.
pub record Bordered (s : Setting) : Type 0 where
  pub vs_vbs : s.vs.0 ≤ s.vbs.0
  pub vbs_vbe : s.vbs.0 < s.vbe.0
  pub vbe_v : s.vbe.0 ≤ s.v.0

-- Sync ends within the frame; an on display keeps its rule, else an on border keeps its own.
abbrev pub Vertical : Setting → Type 0
Vertical s = (s.vs.0 ≤ s.v.0) × (Displayed s ⊎ ((s.vde.0 ≤ s.vds.0) × ((s.vbe.0 ≤ s.vbs.0) ⊎ Bordered s)))

-- A list that can be loaded: 1, it has at most 1,024 words; 2, none of a reserved address.
pub record Loadable (words : List ℕ) : Type 0 where
  pub few : length words ≤ 1024
  pub named : (k : ℕ) → k < length words → reserved (slot_of (get_or words k 0)) ≡ false

pub record EveryRule (g : Registers) : Type 0 where
  -- 3: every needed register is written
  pub written : (slot : ℕ) → slot < 64 → needed g slot ≡ true → written_in g slot ≡ true
  -- 4, 5: control bits 14 and 15 clear, and bit 6
  pub test_mode : test_field (control g) ≡ 0
  pub interlace : interlace_field (control g) ≡ 0
  -- 6
  pub horizontal : Horizontal (setting_of g)
  -- 19: where the cursor is on, 6·HS ≥ 5·f
  pub sync_width : (setting_of g).cursor ≡ true → 5 * pixel_rate g ≤ 6 * (setting_of g).hs.0
  -- 7
  pub vertical : Vertical (setting_of g)
  -- 8: (DE-DS)·d is a multiple of 32
  pub width : ((setting_of g).de.0 - (setting_of g).ds.0) * (setting_of g).depth % 32 ≡ 0
  -- 9: where the cursor is on, its sub-position is 0 and VCE ≤ V
  pub cursor : (setting_of g).cursor ≡ true → (sub_position g ≡ 0) × ((setting_of g).vce.0 ≤ (setting_of g).v.0)

-- What 19 tells: the rules before it are kept, and with the cursor on 6·HS < 5·f.
pub record SyncTooShort (g : Registers) : Type 0 where
  pub written : (slot : ℕ) → slot < 64 → needed g slot ≡ true → written_in g slot ≡ true
  pub test_mode : test_field (control g) ≡ 0
  pub interlace : interlace_field (control g) ≡ 0
  pub horizontal : Horizontal (setting_of g)
  pub cursor_on : (setting_of g).cursor ≡ true
  pub too_short : 6 * (setting_of g).hs.0 < 5 * pixel_rate g
