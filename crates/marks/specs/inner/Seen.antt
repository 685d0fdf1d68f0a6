-- Which pixels were seen: how often pixel q was, by a table that has 1 for it alone; a flag for each of 256, or a bit for each of sixteen.
-- No public promise reaches this.
use Rattle.std.specs.Prelude.{ℕ, zero, suc, ◌/◌, ◌%◌, ◌^◌, ◌<◌, List, ◌≡◌, ltb, eqb, length, get_or, set, replicate}
use Rattle.std.specs.Int.Bits.{bit_or}
use Rattle.buffers.specs.Pick.{pick}
use Rattle.buffers.specs.Painted.{painted}
use Rattle.marks.specs.Count.{total, bit}
use Rattle.marks.specs.Extremes.{least_of, greatest_of}
use Rattle.marks.specs.declared.entry.Entry.{Entry}
use Rattle.marks.specs.inner.Bright.{byte_bright, word_bright_at}

-- A table that has 1 for pixel q alone.
unfoldable pub only : ℕ → List ℕ
only q = set (replicate 256 0) q 1

-- For each byte how many of its pixels are q, and how many of the pixels of the first n words are.
unfoldable pub bytes_only : ℕ → ℕ → List ℕ
bytes_only d q = painted (replicate 256 0) 0 256 (byte_bright (only q) d)

unfoldable pub words_seen : ℕ → List ℕ → ℕ → ℕ → ℕ
words_seen d ws n q = total (word_bright_at (bytes_only d q) ws) n

-- Flags: 1 for each pixel that was seen some times, else what was there.
pub record Flagged (old new : List ℕ) (times : ℕ → ℕ) : Type 0 where
  pub len : length new ≡ length old
  pub on : (q : ℕ) → q < 256 → get_or new q 0 ≡ pick (ltb 0 (times q)) 1 (get_or old q 0)

-- A mask: bit q is set where pixel q was seen some times.
pub record Masked (mask : ℕ) (times : ℕ → ℕ) : Type 0 where
  pub on : (q : ℕ) → q < 16 → mask / 2 ^ q % 2 ≡ bit (ltb 0 (times q))

-- For each byte a mask of its pixels.
pub record Masks (masks : List ℕ) (d : ℕ) : Type 0 where
  pub len : length masks ≡ 256
  pub on : (b : ℕ) → b < 256 → Masked (get_or masks b 0) (λ q. byte_bright (only q) d b)

-- The masks of a word's bytes together, and those of the first n words.
abbrev pub word_mask : List ℕ → ℕ → ℕ
word_mask masks w =
    bit_or (bit_or (bit_or (get_or masks (w % 256) 0) (get_or masks (w / 0x100 % 256) 0)) (get_or masks (w / 0x1_0000 % 256) 0))
    (get_or masks (w / 0x100_0000 % 256) 0)

unfoldable pub words_mask : List ℕ → List ℕ → ℕ → ℕ
words_mask masks ws zero = 0
words_mask masks ws (suc n) = bit_or (words_mask masks ws n) (word_mask masks (get_or ws n 0))

-- A mask's bits as times.
abbrev pub mask_times : ℕ → ℕ → ℕ
mask_times mask q = pick (ltb q 16) (mask / 2 ^ q % 2) 0

-- How many pixels are looked through at a depth: at least as many as there are.
abbrev pub pixels_for : ℕ → ℕ
pixels_for d = pick (eqb d 8) 256 (pick (eqb d 4) 16 4)

-- The grey of a pixel that is flagged; of any other a number that is said beside it.
abbrev pub flagged_grey : List ℕ → List ℕ → ℕ → ℕ → ℕ
flagged_grey greys flags none q = pick (eqb (get_or flags q 0) 0) none (get_or greys q 0)

-- The entry with some count, by the flags of the pixels below an end.
abbrev pub flagged_entry : List ℕ → List ℕ → ℕ → ℕ → Entry
flagged_entry greys flags end count =
    record {
      count = count;
      least = least_of (flagged_grey greys flags 255) end;
      greatest = greatest_of (flagged_grey greys flags 0) end;
    }
