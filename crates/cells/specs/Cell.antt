-- The cell at position x of raster y: its code and its colour.
use Rattle.std.specs.Prelude.{ℕ, ◌+◌, ◌-◌, Bool, ◌&&◌, not, List, ltb, leb, eqb}
use Rattle.buffers.specs.Pick.{pick}
use Rattle.registers.specs.Setting.{display_on, border_on}
use Rattle.registers.specs.Colours.{border_of, cursor_of}
use Rattle.registers.specs.declared.record.Registers.{Registers}
use Rattle.registers.specs.declared.setting.Setting.{Setting}
use Rattle.colours.specs.Colour.{colour_of}
use Rattle.colours.specs.Cells.{cell_with}
use Rattle.cells.specs.Pixel.{logical, cursor_pair}

abbrev pub within : ℕ → ℕ → ℕ → Bool
within from to k = leb from k && ltb k to

-- Horizontal sync counts 1, vertical sync 2.
abbrev pub sync_code : Setting → ℕ → ℕ → ℕ
sync_code s x y = pick (ltb x s.hs.0) 1 0 + pick (ltb y s.vs.0) 2 0

-- A position of an on display, and of an on border.
abbrev pub in_display : Setting → ℕ → ℕ → Bool
in_display s x y = display_on s && within s.ds.0 s.de.0 x && within s.vds.0 s.vde.0 y

abbrev pub in_border : Setting → ℕ → ℕ → Bool
in_border s x y = border_on s && within s.bs.0 s.be.0 x && within s.vbs.0 s.vbe.0 y

-- The code with no cursor: sync, else 5 in the display, else 4 in the border, else 0.
unfoldable pub plain_code : Setting → ℕ → ℕ → ℕ
plain_code s x y = pick (ltb 0 (sync_code s x y)) (sync_code s x y) (pick (in_display s x y) 5 (pick (in_border s x y) 4 0))

-- A position of an on cursor, which is 32 pixels wide.
abbrev pub in_cursor : Setting → ℕ → ℕ → Bool
in_cursor s x y = s.cursor && within s.vcs.0 s.vce.0 y && within s.cx.0 (s.cx.0 + 32) x

-- Inside the border or the display, a pair other than 0 covers its position.
unfoldable pub covered : Setting → List ℕ → ℕ → ℕ → Bool
covered s cursor x y = leb 4 (plain_code s x y) && in_cursor s x y && not (eqb (cursor_pair s cursor y (x - s.cx.0)) 0)

unfoldable pub code : Setting → List ℕ → ℕ → ℕ → ℕ
code s cursor x y = pick (covered s cursor x y) 6 (plain_code s x y)

-- The colour by the code: the cursor's, the pixel's, the border's, or none.
abbrev pub colour : Registers → Setting → List ℕ → List ℕ → ℕ → ℕ → ℕ
colour g s video cursor x y =
    pick (eqb (code s cursor x y) 6) (cursor_of g (cursor_pair s cursor y (x - s.cx.0)))
    (pick (eqb (code s cursor x y) 5) (colour_of g s.depth (logical s video x y))
    (pick (eqb (code s cursor x y) 4) (border_of g) 0))

unfoldable pub cell : Registers → Setting → List ℕ → List ℕ → ℕ → ℕ → ℕ
cell g s video cursor x y = cell_with (code s cursor x y) (colour g s video cursor x y)
