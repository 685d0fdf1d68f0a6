-- A setting in C, which is 21 numbers; and judging for sound: 13 for what is no record, then 3, 10.
use Rattle.std.specs.Prelude.{ℕ, cond, List, [], ◌∷◌}
use Rattle.refusals.specs.Table.{Told, and_then}
use Rattle.registers.specs.Setting.{display_on, border_on, video_words, cursor_words}
use Rattle.registers.specs.Sound.{sound_told}
use Rattle.registers.specs.declared.setting.Setting.{Setting}
use Rattle.vombelishi.specs.Record.{record_told}

-- N, HS, BS, DS, DE, BE, CX; V, VS, VBS, VDS, VDE, VBE, VCS, VCE; depth; display, border, cursor on; video and cursor words.
unfoldable pub numbers_of : Setting → List ℕ
numbers_of s =
    s.n.0 ∷ s.hs.0 ∷ s.bs.0 ∷ s.ds.0 ∷ s.de.0 ∷ s.be.0 ∷ s.cx.0
    ∷ s.v.0 ∷ s.vs.0 ∷ s.vbs.0 ∷ s.vds.0 ∷ s.vde.0 ∷ s.vbe.0 ∷ s.vcs.0 ∷ s.vce.0
    ∷ s.depth ∷ cond (display_on s) 1 0 ∷ cond (border_on s) 1 0 ∷ cond s.cursor 1 0
    ∷ video_words s ∷ cursor_words s ∷ []

unfoldable pub check_sound_call : List ℕ → List ℕ → Told (Unit {0})
check_sound_call values written = and_then (record_told values written) sound_told
