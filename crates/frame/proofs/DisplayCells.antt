-- The display's stretch of a raster: what the raster's own words make of it is what all words make of it, since the pixels of a part
-- of the words are pixels of all.
use Prim.Native.Nat.{ℕ, ◌+◌, ◌*◌, ◌-◌, ◌/◌, ◌<◌, ◌≤◌}
use mathlib.Core.Path.{◌≡◌}
use mathlib.Core.List.{List}
use native.Mathlib.Nat.{div-lt_iff_lt-mul}
use native.Mathlib.Omega.{arith}
use lib.ListN.{length, take, drop, length-take, length-drop}
use Rattle.registers.specs.Setting.{raster_words}
use Rattle.registers.specs.declared.setting.Setting.{Setting}
use Rattle.registers.specs.inner.Accepted.{Accepted}
use Rattle.cells.specs.Pixel.{first_word}
use Rattle.cells.specs.inner.Known.{Picture}
use Rattle.cells.proofs.PixelPlaces.{per_least, past_bytes, past_pixels, byte_part}
use Rattle.cells.proofs.RasterWords.{four_bytes, whole_pixels, raster_room}
use Rattle.frame.specs.inner.Ink.{words_ink, display_ink}

-- Pixel j of the words of raster r, m words to a raster and per pixels to a byte.
row_same : (table ws : List ℕ) (per m r j : ℕ) → 0 < per → j < m * (4 * per)
    → words_ink table (take m (drop (r * m) ws)) per j ≡ words_ink table ws per (r * (m * (4 * per)) + j)
unfolding words_ink
row_same table ws per m r j some h =
    let b : j / per < m * 4 = (div-lt_iff_lt-mul some).1 (omega arith) in
    let n = r * (m * (4 * per)) + j in
    let e : n ≡ r * m * 4 * per + j = omega arith in
    rw (past_bytes n per (r * m * 4) j e some, past_pixels n per (r * m * 4) j e, byte_part ws (r * m) m (j / per) b)

module _ {s : Setting} {video cursor : List ℕ} (r : Picture s video cursor) (y : ℕ) (above : s.vds.0 ≤ y) where
  -- The raster's words lie in the list.
  pub words_lie : y < s.vde.0 → first_word s y + raster_words s ≤ length video
  words_lie below = rw r.video_words (raster_room s r.accepted y above below)

  pub row_pixels : raster_words s * (32 / s.depth) ≡ s.de.0 - s.ds.0
  row_pixels = whole_pixels s r.accepted

  -- They make of its display's position j what all words do.
  pub row_ink : (table : List ℕ) (j : ℕ) → j < s.de.0 - s.ds.0
      → words_ink table (take (raster_words s) (drop (first_word s y) video)) (8 / s.depth) j ≡ display_ink s table video y (s.ds.0 + j)
  unfolding display_ink first_word
  row_ink table j h =
      let per = 8 / s.depth in
      let x : s.ds.0 + j - s.ds.0 ≡ j = omega arith in
      let n : raster_words s * (4 * per) ≡ s.de.0 - s.ds.0 = rw (← four_bytes r.accepted.depth) row_pixels in
      rw (x, row_same table video per (raster_words s) (y - s.vds.0) j (per_least r.accepted.depth) (omega arith), n)

pub part_length : (m first : ℕ) (video : List ℕ) → first + m ≤ length video → length (take m (drop first video)) ≡ m
part_length m first video h = simp (length-take, length-drop) (omega arith)

-- A raster's words as they are handed on, from `first` up to `last`, and what room their cells take.
module _ (s : Setting) (r : Accepted s) (video o : List ℕ) (at y ds first last : ℕ) (room : at + s.n.0 ≤ length o) (e_ds : ds ≡ s.ds.0)
    (e_first : first ≡ first_word s y) (e_last : last ≡ first + raster_words s) (fits : first_word s y + raster_words s ≤ length video) where
  part_count : last - first ≡ raster_words s
  part_count = omega arith

  pub shown_room : at + ds + length (take (last - first) (drop first video)) * (32 / s.depth) ≤ length o
  shown_room =
      rw (part_count, e_first, e_ds, part_length (raster_words s) (first_word s y) video fits, whole_pixels s r)
      (omega (arith, r.ds_de, r.de_be, r.be_n))
