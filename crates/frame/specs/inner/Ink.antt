-- The cell rule over cells made ready, as the painters hold them among themselves; no public promise reaches this. `pens` are the
-- cells of the colours at 40H to 4CH: the border's, then the cursor's three. `shades` has the display cell of each logical pixel,
-- and `table` those of all pixels of each byte: `per` of them, 8/d, from place `per` times the byte on.
use Rattle.std.specs.Prelude.{ℕ, ◌+◌, ◌*◌, ◌-◌, ◌/◌, ◌%◌, ◌^◌, List, [], ◌∷◌, get_or, ltb, eqb}
use Rattle.buffers.specs.Pick.{pick}
use Rattle.buffers.specs.Words.{byte_of}
use Rattle.registers.specs.Colours.{border_of, cursor_of}
use Rattle.registers.specs.declared.record.Registers.{Registers}
use Rattle.registers.specs.declared.setting.Setting.{Setting}
use Rattle.colours.specs.Colour.{shown_of, colour_of}
use Rattle.cells.specs.Pixel.{position, cursor_pair}
use Rattle.cells.specs.Cell.{in_display, in_border, plain_code, covered, cell}

-- The cell of pixel j of a byte, and place k of the table: pixel k mod per of byte k div per.
unfoldable pub byte_ink : List ℕ → ℕ → ℕ → ℕ → ℕ
byte_ink shades b d j = get_or shades (b / 2 ^ (j * d) % 2 ^ d) 0

unfoldable pub bytes_ink : List ℕ → ℕ → ℕ → ℕ → ℕ
bytes_ink shades per d k = byte_ink shades (k / per) d (k % per)

-- The cell of pixel i of one word, and of a list of words: pixel i mod per of byte i div per.
unfoldable pub word_ink : List ℕ → ℕ → ℕ → ℕ → ℕ
word_ink table w per i = get_or table (w / 2 ^ (8 * (i / per)) % 256 * per + i % per) 0

unfoldable pub words_ink : List ℕ → List ℕ → ℕ → ℕ → ℕ
words_ink table ws per i = get_or table (byte_of ws (i / per) * per + i % per) 0

-- Cell j of four.
unfoldable pub quad_cell : ℕ → ℕ → ℕ
quad_cell x j = x / 2 ^ (16 * j) % 65536

-- Position x of raster y where it is displayed.
unfoldable pub display_ink : Setting → List ℕ → List ℕ → ℕ → ℕ → ℕ
display_ink s table video y x = words_ink table video (8 / s.depth) (position s x y)

-- A cell of raster y outside border and horizontal sync: code 2 in vertical sync, else 0.
abbrev pub blank_of : Setting → ℕ → ℕ
blank_of s y = pick (ltb y s.vs.0) 2 0 * 8192

-- Position x of raster y outside the display.
unfoldable pub edge_ink : Setting → List ℕ → ℕ → ℕ → ℕ
edge_ink s pens y x = pick (ltb x s.hs.0) (blank_of s y + 8192) (pick (in_border s x y) (get_or pens 0 0) (blank_of s y))

-- Position x of raster y with no cursor.
unfoldable pub plain_ink : Setting → List ℕ → List ℕ → List ℕ → ℕ → ℕ → ℕ
plain_ink s pens table video y x =
    pick (eqb (plain_code s x y) 5) (display_ink s table video y x)
    (pick (eqb (plain_code s x y) 4) (get_or pens 0 0) (plain_code s x y * 8192))

-- The same over a line of the cells outside the display.
unfoldable pub lined_ink : Setting → List ℕ → List ℕ → List ℕ → ℕ → ℕ → ℕ
lined_ink s line table video y x = pick (in_display s x y) (display_ink s table video y x) (get_or line x 0)

unfoldable pub ink : Setting → List ℕ → List ℕ → List ℕ → List ℕ → ℕ → ℕ → ℕ
ink s pens table video cursor y x =
    pick (covered s cursor x y) (get_or pens (cursor_pair s cursor y (x - s.cx.0)) 0) (plain_ink s pens table video y x)

-- Place k of rasters one after another, from the first on.
unfoldable pub rows_ink : Setting → List ℕ → List ℕ → List ℕ → List ℕ → ℕ → ℕ → ℕ
rows_ink s pens table video cursor first k = ink s pens table video cursor (first + k / s.n.0) (k % s.n.0)

-- The same by the cell rule.
unfoldable pub rows_cell : Registers → Setting → List ℕ → List ℕ → ℕ → ℕ → ℕ
rows_cell g s video cursor first k = cell g s video cursor (k % s.n.0) (first + k / s.n.0)

-- The cursor over the cells that a raster holds.
unfoldable pub cover_ink : Setting → List ℕ → List ℕ → ℕ → List ℕ → ℕ → ℕ
cover_ink s pens cursor y old x =
    pick (covered s cursor x y) (get_or pens (cursor_pair s cursor y (x - s.cx.0)) 0) (get_or old x 0)

-- Bit pair i of the words from the given one on.
unfoldable pub pair_in : List ℕ → ℕ → ℕ → ℕ
pair_in ws first i = get_or ws (first + i / 16) 0 / 2 ^ (2 * (i % 16)) % 4

-- Pairs of a cursor raster over cells that stand from place `start` on.
unfoldable pub pair_ink : List ℕ → List ℕ → ℕ → ℕ → List ℕ → ℕ → ℕ
pair_ink pens cursor first start old k =
    pick (eqb (pair_in cursor first (k - start)) 0) (get_or old k 0) (get_or pens (pair_in cursor first (k - start)) 0)

-- The display cell of a logical pixel, and the same by the palette's entries.
unfoldable pub shade : Registers → ℕ → ℕ → ℕ
shade g d p = 5 * 8192 + colour_of g d p

unfoldable pub entry_shade : List ℕ → ℕ → ℕ → ℕ
entry_shade palette d p = 5 * 8192 + shown_of (get_or palette (p % 16) 0) d p

unfoldable pub pens_of : Registers → List ℕ
pens_of g =
    (4 * 8192 + border_of g)
    ∷ (6 * 8192 + cursor_of g 1)
    ∷ (6 * 8192 + cursor_of g 2)
    ∷ (6 * 8192 + cursor_of g 3)
    ∷ []
