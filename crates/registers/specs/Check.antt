-- The setting's rules, 3 to 9 of the table with 19 behind 6, in the paper's words and order.
use Rattle.std.specs.Prelude.{ℕ, ◌*◌, ◌-◌, ◌%◌, Bool, ◌&&◌, ◌||◌, not, List, [], ◌∷◌, ltb, leb, eqb}
use Rattle.refusals.specs.Table.{Told, Row, row, judged}
use Rattle.registers.specs.Control.{pixel_rate, test_mode, interlaced}
use Rattle.registers.specs.Geometry.{sub_position}
use Rattle.registers.specs.Setting.{setting_of, display_on, border_on}
use Rattle.registers.specs.Lowest.{lowest}
use Rattle.registers.specs.Needed.{missing}
use Rattle.registers.specs.declared.record.Registers.{Registers}
use Rattle.registers.specs.declared.setting.Setting.{Setting}

-- HS ≤ BS ≤ DS < DE ≤ BE ≤ N.
abbrev pub horizontal_rule : Setting → Bool
horizontal_rule s =
    leb s.hs.0 s.bs.0 && leb s.bs.0 s.ds.0 && ltb s.ds.0 s.de.0 && leb s.de.0 s.be.0
    && leb s.be.0 s.n.0

-- Where the cursor is on, horizontal sync is long enough for it: 6·HS ≥ 5·f, with HS in pixels and the pixel rate f in MHz.
abbrev pub sync_rule : Registers → Setting → Bool
sync_rule g s = not s.cursor || leb (5 * pixel_rate g) (6 * s.hs.0)

-- VS ≤ VBS ≤ VDS < VDE ≤ VBE ≤ V.
abbrev pub display_rule : Setting → Bool
display_rule s =
    leb s.vs.0 s.vbs.0 && leb s.vbs.0 s.vds.0 && ltb s.vds.0 s.vde.0 && leb s.vde.0 s.vbe.0
    && leb s.vbe.0 s.v.0

-- VS ≤ VBS < VBE ≤ V.
abbrev pub border_rule : Setting → Bool
border_rule s = leb s.vs.0 s.vbs.0 && ltb s.vbs.0 s.vbe.0 && leb s.vbe.0 s.v.0

-- VS ≤ V, and the display's rule, or display off and border off or right.
abbrev pub vertical_rule : Setting → Bool
vertical_rule s =
    leb s.vs.0 s.v.0 && (display_rule s || (not (display_on s) && (not (border_on s) || border_rule s)))

-- (DE-DS)·d is a multiple of 32.
abbrev pub width_rule : Setting → Bool
width_rule s = eqb ((s.de.0 - s.ds.0) * s.depth % 32) 0

-- Where the cursor is on, its sub-position is 0 and VCE ≤ V.
abbrev pub cursor_rule : Registers → Setting → Bool
cursor_rule g s = not s.cursor || (eqb (sub_position g) 0 && leb s.vce.0 s.v.0)

-- The lowest slot that is needed and unwritten, or 64.
abbrev pub unwritten : Registers → ℕ
unwritten g = lowest (missing g) 64 0

abbrev pub setting_table : Registers → List Row
setting_table g =
    row 3 (ltb (unwritten g) 64) (4 * unwritten g)
    ∷ row 4 (test_mode g) 0
    ∷ row 5 (interlaced g) 0
    ∷ row 6 (not (horizontal_rule (setting_of g))) 0
    ∷ row 19 (not (sync_rule g (setting_of g))) 0
    ∷ row 7 (not (vertical_rule (setting_of g))) 0
    ∷ row 8 (not (width_rule (setting_of g))) 0
    ∷ row 9 (not (cursor_rule g (setting_of g))) 0
    ∷ []

unfoldable pub check_told : Registers → Told Setting
check_told g = judged (setting_table g) (setting_of g)
