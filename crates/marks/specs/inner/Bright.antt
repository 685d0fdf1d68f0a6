-- What the functions count among themselves: bright pixels by a table, and those of them that the cursor covers. No public promise reaches this.
use Rattle.std.specs.Prelude.{ℕ, ◌+◌, ◌*◌, ◌-◌, ◌/◌, ◌%◌, ◌^◌, ◌<◌, ◌≤◌, ◌&&◌, List, ◌≡◌, length, get_or, leb, eqb}
use Rattle.buffers.specs.Pick.{pick}
use Rattle.registers.specs.declared.record.Registers.{Registers}
use Rattle.registers.specs.declared.setting.Setting.{Setting}
use Rattle.registers.specs.Colours.{palette_of}
use Rattle.colours.specs.Colour.{shown_of}
use Rattle.colours.specs.Grey.{grey_of}
use Rattle.cells.specs.Pixel.{pixel, logical}
use Rattle.cells.specs.Cell.{plain_code, covered}
use Rattle.marks.specs.Count.{total, bit}

-- A pixel is bright if the grey that its entry shows is at or above the threshold.
abbrev pub lit : ℕ → ℕ → ℕ → ℕ → ℕ
lit e d threshold p = bit (leb threshold (grey_of (shown_of e d p)))

abbrev pub bright : Registers → ℕ → ℕ → ℕ → ℕ
bright g d threshold p = lit (palette_of g p) d threshold p

-- A table of 256 whose first n entries are given by a rule.
pub record Tabled (table : List ℕ) (n : ℕ) (f : ℕ → ℕ) : Type 0 where
  pub len : length table ≡ 256
  pub on : (k : ℕ) → k < n → get_or table k 0 ≡ f k

pub record AtMost (table : List ℕ) (m : ℕ) : Type 0 where
  pub most : (k : ℕ) → get_or table k 0 ≤ m

-- The table's sum over the pixels of a byte, lowest bits first.
abbrev pub field : ℕ → ℕ → ℕ → ℕ
field w d j = w / 2 ^ (j * d) % 2 ^ d

abbrev pub field_bright : List ℕ → ℕ → ℕ → ℕ → ℕ
field_bright pixels d b j = get_or pixels (field b d j) 0

unfoldable pub byte_bright : List ℕ → ℕ → ℕ → ℕ
byte_bright pixels d b = total (field_bright pixels d b) (8 / d)

-- Logical pixel i of a list of words.
abbrev pub pixel_bright : List ℕ → List ℕ → ℕ → ℕ → ℕ
pixel_bright pixels ws d i = get_or pixels (pixel ws d i) 0

-- A table of bytes, over the four bytes of a word, and over the words of a list.
abbrev pub word_bright : List ℕ → ℕ → ℕ
word_bright bytes w =
    get_or bytes (w % 256) 0 + get_or bytes (w / 0x100 % 256) 0 + get_or bytes (w / 0x1_0000 % 256) 0 + get_or bytes (w / 0x100_0000 % 256) 0

abbrev pub word_bright_at : List ℕ → List ℕ → ℕ → ℕ
word_bright_at bytes ws k = word_bright bytes (get_or ws k 0)

-- Position x of raster y, where code 5 would apply and the cursor covers it.
abbrev pub covered_bright : Setting → List ℕ → List ℕ → List ℕ → ℕ → ℕ → ℕ
covered_bright s video cursor pixels y x =
    pick (eqb (plain_code s x y) 5 && covered s cursor x y) (get_or pixels (logical s video x y) 0) 0

-- Cursor position i of raster y, a raster's 32, and the cursor's raster j.
unfoldable pub cursor_bright : Setting → List ℕ → List ℕ → List ℕ → ℕ → ℕ → ℕ
cursor_bright s video cursor pixels y i = covered_bright s video cursor pixels y (s.cx.0 + i)

unfoldable pub raster_bright : Setting → List ℕ → List ℕ → List ℕ → ℕ → ℕ
raster_bright s video cursor pixels y = total (cursor_bright s video cursor pixels y) 32

unfoldable pub cursor_raster : Setting → List ℕ → List ℕ → List ℕ → ℕ → ℕ
cursor_raster s video cursor pixels j = raster_bright s video cursor pixels (s.vcs.0 + j)

-- All that the cursor covers, where it is on.
unfoldable pub covered_all : Setting → List ℕ → List ℕ → List ℕ → ℕ
covered_all s video cursor pixels = pick s.cursor (total (cursor_raster s video cursor pixels) (s.vce.0 - s.vcs.0)) 0

-- Cursor raster j is there, and displayed.
pub record OnCursor (s : Setting) (cursor : List ℕ) (j : ℕ) : Type 0 where
  pub here : j < length cursor / 2
  pub vds_y : s.vds.0 ≤ s.vcs.0 + j
  pub y_vde : s.vcs.0 + j < s.vde.0
