-- What a raster shows: sums of a table over its display positions, without those that the cursor covers. No public promise reaches this.
use Rattle.std.specs.declared.ops.Range.{Range}
use Rattle.std.specs.Prelude.{ℕ, ◌+◌, ◌*◌, ◌-◌, ◌/◌, ◌%◌, ◌<◌, ◌≤◌, true, List, ◌≡◌, ltb, leb, get_or}
use Rattle.buffers.specs.Pick.{pick}
use Rattle.registers.specs.Setting.{raster_words}
use Rattle.registers.specs.inner.Accepted.{Depth}
use Rattle.registers.specs.declared.record.Registers.{Registers}
use Rattle.registers.specs.declared.setting.Setting.{Setting}
use Rattle.colours.specs.Colour.{colour_of}
use Rattle.colours.specs.Grey.{grey_of}
use Rattle.cells.specs.Pixel.{logical}
use Rattle.cells.specs.Cell.{covered}
use Rattle.marks.specs.Count.{total, bit}
use Rattle.marks.specs.Extremes.{least_of, greatest_of}
use Rattle.marks.specs.Summaries.{number_of}
use Rattle.marks.specs.inner.Bright.{Tabled, byte_bright}
use Rattle.marks.specs.inner.Seen.{only, Masks, pixels_for}
use Rattle.marks.specs.declared.entry.Entry.{Entry}

-- The grey that a pixel shows.
abbrev pub grey_at : Registers → ℕ → ℕ → ℕ
grey_at g d p = grey_of (colour_of g d p)

-- 1 for a pixel whose grey in a table is at or above the threshold.
abbrev pub lit_by : List ℕ → ℕ → ℕ → ℕ
lit_by greys threshold p = bit (leb threshold (get_or greys p 0))

-- What a table has for display position p of raster y, nothing where it is covered; and the sum over n positions from a on.
unfoldable pub shown_at : Setting → List ℕ → List ℕ → List ℕ → ℕ → ℕ → ℕ
shown_at s video cursor pixels y p = pick (covered s cursor (s.ds.0 + p) y) 0 (get_or pixels (logical s video (s.ds.0 + p) y) 0)

abbrev pub shown_from : Setting → List ℕ → List ℕ → List ℕ → ℕ → ℕ → ℕ → ℕ
shown_from s video cursor pixels y a i = shown_at s video cursor pixels y (a + i)

unfoldable pub shown_total : Setting → List ℕ → List ℕ → List ℕ → ℕ → ℕ → ℕ → ℕ
shown_total s video cursor pixels y a n = total (shown_from s video cursor pixels y a) n

-- How often pixel q is shown at a position, and at n positions from a on.
abbrev pub seen_at : Setting → List ℕ → List ℕ → ℕ → ℕ → ℕ → ℕ
seen_at s video cursor y p q = shown_at s video cursor (only q) y p

abbrev pub seen_from : Setting → List ℕ → List ℕ → ℕ → ℕ → ℕ → ℕ → ℕ
seen_from s video cursor y a n q = shown_total s video cursor (only q) y a n

-- The grey of a pixel that raster y shows; of any other a number that is said beside it.
abbrev pub seen_grey : List ℕ → Setting → List ℕ → List ℕ → ℕ → ℕ → ℕ → ℕ
seen_grey greys s video cursor none y q = pick (ltb 0 (seen_from s video cursor y 0 (s.de.0 - s.ds.0) q)) (get_or greys q 0) none

-- The entry of raster y by a table of greys and one of bright pixels; and the number at place k of all entries.
unfoldable pub entry_by : List ℕ → List ℕ → Setting → List ℕ → List ℕ → ℕ → Entry
entry_by greys pixels s video cursor y =
    record {
      count = shown_total s video cursor pixels y 0 (s.de.0 - s.ds.0);
      least = least_of (seen_grey greys s video cursor 255 y) (pixels_for s.depth);
      greatest = greatest_of (seen_grey greys s video cursor 0 y) (pixels_for s.depth);
    }

unfoldable pub number_by : List ℕ → List ℕ → Setting → List ℕ → List ℕ → ℕ → ℕ
number_by greys pixels s video cursor k = number_of (entry_by greys pixels s video cursor (s.vds.0 + k / 3)) (k % 3)

-- What tables by byte hold at a depth, by one of bright pixels: of each byte the count, and at depths up to 4 the mask.
pub record RasterTables (pixels bytes masks : List ℕ) (d : ℕ) : Type 0 where
  pub depth : Depth d
  pub summed : Tabled bytes 256 (byte_bright pixels d)
  pub held : d ≤ 4 → Masks masks d

-- Of a displayed raster's words those from one up to another, outside of which the cursor covers nothing.
pub record CursorPart (s : Setting) (y : ℕ) (part : Range ℕ) : Type 0 where
  pub order : part.start ≤ part.end
  pub inside : part.end ≤ raster_words s
  pub only : (cursor : List ℕ) (p : ℕ) → p < s.de.0 - s.ds.0 → covered s cursor (s.ds.0 + p) y ≡ true
      → (part.start * (32 / s.depth) ≤ p) × (p < part.end * (32 / s.depth))
