-- The live bench: the bytes read from the queues are those that the frame uses, in its order, every one of them is used,
-- filler is never shown, and what they show at a position is the frame's own cell.
use Prim.Native.Nat.{ℕ, ◌+◌, ◌*◌, ◌-◌, ◌/◌, ◌%◌, ◌<◌, ◌≤◌}
use mathlib.Core.Bool.{Bool, true, false, ◌&&◌, not}
use mathlib.Core.List.{List}
use mathlib.Core.Logic.{inl, inr}
use mathlib.Core.Path.{◌≡◌, refl, sym, ◌∙◌, ap}
use native.Mathlib.Nat.{mod-lt, div-add-mod', mul_assoc, mul-le-mul_right, lt_of_mul-lt-mul_right, div-lt_iff_lt-mul, add-sub_cancel_left}
use native.Mathlib.Omega.{arith}
use borrow.Author.Tests.{ne_eqb}
use lib.Dec.{eqb, ltb, leb}
use lib.ListN.{length}
use Rattle.buffers.specs.Pick.{pick}
use Rattle.buffers.proofs.Tests.{and_split, and_join}
use Rattle.buffers.proofs.Split.{true_or_false}
use Rattle.refusals.specs.Table.{given}
use Rattle.registers.specs.Setting.{display_on, raster_words, video_words, cursor_words}
use Rattle.registers.specs.declared.record.Registers.{Registers}
use Rattle.registers.specs.declared.setting.Setting.{Setting}
use Rattle.registers.specs.inner.Accepted.{Depth, Accepted}
use Rattle.registers.proofs.Accepted.{video_off, cursor_off, cursor_words_holds}
use Rattle.registers.proofs.Words.{raster_bits, video_rasters, depth_least}
use Rattle.queues.specs.declared.Queue.{Queue}
use Rattle.colours.proofs.Bounds.{picked_below}
use Rattle.cells.specs.Pixel.{pixel, position, logical, cursor_pair}
use Rattle.cells.specs.Cell.{within, sync_code, in_display, in_border, in_cursor, plain_code, covered, code, cell}
use Rattle.cells.specs.Picture.{picture_told}
use Rattle.cells.specs.inner.Known.{Picture}
use Rattle.cells.specs.inner.Region.{InDisplay}
use Rattle.cells.proofs.PixelPlaces.{fills_byte}
use Rattle.cells.proofs.Pictures.{given_picture}
use Rattle.cells.proofs.Regions.{within_true, true_within, display_inside, inside_display, display_on_holds, code_five, plain_five}
use Rattle.frame.specs.Frame.{frame_cell}
use Rattle.histories.specs.Calls.{QueueCall}
use Rattle.histories.specs.Since.{given_by}
use Rattle.histories.specs.Live.{Fed, byte_used, pixel_read, cursor_position, words_read}
use Rattle.histories.proofs.Bytes.{pair_pixel}
use Rattle.histories.proofs.Fed.{pixel_read_holds, pixel_in_words}

module _ (s : Setting) (a : Accepted s) where
  -- The bits of all display positions are those of the video words.
  frame_bits : display_on s ≡ true → (s.vde.0 - s.vds.0) * (s.de.0 - s.ds.0) * s.depth ≡ video_words s * 32
  frame_bits on =
      let h = s.vde.0 - s.vds.0 in
      let w = s.de.0 - s.ds.0 in
      mul_assoc h w s.depth
      ∙ ap (λ n. h * n) (sym (raster_bits s a))
      ∙ sym (mul_assoc h (raster_words s) 32)
      ∙ ap (λ n. n * 32) (sym (video_rasters s a on))

  -- A display position uses a byte of the video words: no filler is shown.
  pub display_byte : (x y : ℕ) → in_display s x y ≡ true → byte_used s.depth (position s x y) < 4 * video_words s
  display_byte x y e =
      let i = display_inside s x y e in
      let w = s.de.0 - s.ds.0 in
      let h = s.vde.0 - s.vds.0 in
      let row : y - s.vds.0 + 1 ≤ h = omega (arith, i.above, i.below) in
      let last : position s x y + 1 ≤ h * w = omega (arith, mul-le-mul_right w row, i.left, i.right) in
      omega (arith, mul-le-mul_right s.depth last, frame_bits (display_on_holds s x y i), depth_least a.depth)

  -- And each byte of the video words is used.
  pub display_used : (k : ℕ) → k < 4 * video_words s
      → (x : ℕ) × (y : ℕ) × (in_display s x y ≡ true) × (byte_used s.depth (position s x y) ≡ k)
  display_used k less =
      let d = s.depth in
      let w = s.de.0 - s.ds.0 in
      let h = s.vde.0 - s.vds.0 in
      let i = k * (8 / d) in
      let wide : 0 < w = omega (arith, a.ds_de) in
      let bits : i * d ≡ k * 8 = mul_assoc k (8 / d) d ∙ ap (λ n. k * n) (fills_byte a.depth) in
      let below : i < h * w = lt_of_mul-lt-mul_right d (omega (arith, bits, frame_bits on)) in
      let row : i / w < h = (div-lt_iff_lt-mul wide).1 below in
      let column : i % w < w = mod-lt i wide in
      let x = s.ds.0 + i % w in
      let y = s.vds.0 + i / w in
      let at : position s x y ≡ i =
      rw (add-sub_cancel_left s.vds.0 (i / w), add-sub_cancel_left s.ds.0 (i % w)) (div-add-mod' i w) in
      let inside : InDisplay s x y = record { left = omega arith; right = omega arith; above = omega arith; below = omega arith } in
      (x, y, inside_display s x y inside, ap (λ n. n * d / 8) at ∙ omega (arith, bits))
    where
      on : display_on s ≡ true
      on = elim (true_or_false (display_on s)) [ inl t ↦ t | inr f ↦ absurd (omega (arith, video_off s f)) ]

-- So of the cursor's positions and words, whose depth is two.
two : Depth 2
two = inr (inl refl)

in_cursor_holds : (s : Setting) (x y : ℕ) → in_cursor s x y ≡ true
    → (s.cursor ≡ true) × ((s.vcs.0 ≤ y) × (y < s.vce.0)) × ((s.cx.0 ≤ x) × (x < s.cx.0 + 32))
in_cursor_holds s x y e =
    let rows = within s.vcs.0 s.vce.0 y in
    let h = and_split (s.cursor && rows) (within s.cx.0 (s.cx.0 + 32) x) e in
    let on = and_split s.cursor rows h.0 in
    (on.0, within_true s.vcs.0 s.vce.0 y on.1, within_true s.cx.0 (s.cx.0 + 32) x h.1)

module _ (s : Setting) where
  pub cursor_byte : (x y : ℕ) → in_cursor s x y ≡ true → byte_used 2 (cursor_position s x y) < 4 * cursor_words s
  cursor_byte x y e =
      let i = in_cursor_holds s x y e in
      omega (arith, cursor_words_holds s i.0, i.1.0, i.1.1, i.2.0, i.2.1)

  pub cursor_used : (k : ℕ) → k < 4 * cursor_words s
      → (x : ℕ) × (y : ℕ) × (in_cursor s x y ≡ true) × (byte_used 2 (cursor_position s x y) ≡ k)
  cursor_used k less =
      let x = s.cx.0 + 4 * (k % 8) in
      let y = s.vcs.0 + k / 8 in
      let rows = true_within s.vcs.0 s.vce.0 y (omega arith) (omega (arith, cursor_words_holds s on)) in
      (x, y, and_join (and_join on rows) (true_within s.cx.0 (s.cx.0 + 32) x (omega arith) (omega arith)), omega arith)
    where
      on : s.cursor ≡ true
      on = elim (true_or_false s.cursor) [ inl t ↦ t | inr f ↦ absurd (omega (arith, cursor_off s f)) ]

-- A cell has of the video words the pixel of its display position, of the cursor words the pair of its cursor position, and nothing else.
outside : (t u v : Bool) → u ≡ false → t && u && v ≡ false
outside true u v e = rw e
outside false u v e = refl

plain_most : (s : Setting) (x y : ℕ) → plain_code s x y < 6
unfolding plain_code
plain_most s x y =
    let across : pick (ltb x s.hs.0) 1 0 < 2 = picked_below (ltb x s.hs.0) (omega arith) (omega arith) in
    let down : pick (ltb y s.vs.0) 2 0 < 3 = picked_below (ltb y s.vs.0) (omega arith) (omega arith) in
    picked_below (ltb 0 (sync_code s x y)) (omega arith)
    (picked_below (in_display s x y) (omega arith) (picked_below (in_border s x y) (omega arith) (omega arith)))

module _ (g : Registers) (s : Setting) (x y : ℕ) where
  cursor_same : (video cursor other : List ℕ) → (in_cursor s x y ≡ true → cursor_pair s cursor y (x - s.cx.0) ≡ cursor_pair s other y (x - s.cx.0))
      → cell g s video cursor x y ≡ cell g s video other x y
  unfolding cell code covered
  cursor_same video cursor other h =
      elim (true_or_false (in_cursor s x y)) [
        | inl e ↦ rw (h e)
        | inr e ↦
            let t = leb 4 (plain_code s x y) in
            let one = outside t (in_cursor s x y) (not (eqb (cursor_pair s cursor y (x - s.cx.0)) 0)) e in
            let two = outside t (in_cursor s x y) (not (eqb (cursor_pair s other y (x - s.cx.0)) 0)) e in
            rw (one, two, ne_eqb (plain_code s x y) 6 (λ n. omega (arith, plain_most s x y)))
      ]

  video_same : (a : Accepted s) (video other cursor : List ℕ) → (in_display s x y ≡ true → logical s video x y ≡ logical s other x y)
      → cell g s video cursor x y ≡ cell g s other cursor x y
  unfolding cell
  video_same a video other cursor h =
      elim (true_or_false (eqb (code s cursor x y) 5)) [
        | inl e ↦
            let five = and_split (not (covered s cursor x y)) (eqb (plain_code s x y) 5) (sym (code_five s x y cursor) ∙ e) in
            rw (e, h (sym (plain_five s a x y) ∙ five.1))
        | inr e ↦ rw e
      ]

-- A picture that is not refused: a queue that was fed its video words, and one that was fed its cursor words, each since its last emptying.
module _ (g : Registers) (s : Setting) (video cursor : List ℕ) (p : picture_told g video cursor ≡ given s) where
  known : Picture s video cursor
  known = given_picture g video cursor s p

  own_display : (x y : ℕ) → in_display s x y ≡ true → byte_used s.depth (position s x y) < 4 * length video
  own_display x y e = omega (arith, display_byte s known.accepted x y e, known.video_words)

  own_cursor : (x y : ℕ) → in_cursor s x y ≡ true → byte_used 2 (cursor_position s x y) < 4 * length cursor
  own_cursor x y e = omega (arith, cursor_byte s x y e, known.cursor_words)

  pair_is : (words : List ℕ) (x y : ℕ) → in_cursor s x y ≡ true
      → cursor_pair s words y (x - s.cx.0) ≡ pixel words 2 (cursor_position s x y)
  pair_is words x y e = let i = in_cursor_holds s x y e in pair_pixel s words x y (omega (arith, i.2.0, i.2.1))

  -- The logical pixel of a display position is the d bits of the byte it uses, of those read.
  pub display_live :
      (q : Queue) → length q.words ≡ 8 → (cs : List QueueCall) → Fed video q cs → (x y : ℕ) → in_display s x y ≡ true
      → byte_used s.depth (position s x y) < length (given_by q cs)
      → logical s video x y ≡ pixel_read (given_by q cs) s.depth (position s x y)
  display_live q long cs fed x y e h =
      pixel_read_holds q long cs video fed s.depth (position s x y) known.accepted.depth h (own_display x y e)

  -- The pair of a cursor position is the two bits of the byte it uses.
  pub cursor_live :
      (q : Queue) → length q.words ≡ 8 → (cs : List QueueCall) → Fed cursor q cs → (x y : ℕ) → in_cursor s x y ≡ true
      → byte_used 2 (cursor_position s x y) < length (given_by q cs)
      → cursor_pair s cursor y (x - s.cx.0) ≡ pixel_read (given_by q cs) 2 (cursor_position s x y)
  cursor_live q long cs fed x y e h =
      pair_is cursor x y e ∙ pixel_read_holds q long cs cursor fed 2 (cursor_position s x y) two h (own_cursor x y e)

  module _ (q : Queue) (long : length q.words ≡ 8) (cs : List QueueCall) (fed : Fed video q cs)
      (r : Queue) (wide : length r.words ≡ 8) (ds : List QueueCall) (drawn : Fed cursor r ds) where
    -- What the bytes read so far show at a position whose bytes are read is the frame's cell.
    pub cell_live : (x y : ℕ)
        → (in_display s x y ≡ true → byte_used s.depth (position s x y) < length (given_by q cs))
        → (in_cursor s x y ≡ true → byte_used 2 (cursor_position s x y) < length (given_by r ds))
        → cell g s (words_read (given_by q cs)) (words_read (given_by r ds)) x y ≡ cell g s video cursor x y
    cell_live x y h k =
        cursor_same g s x y (words_read (given_by q cs)) (words_read (given_by r ds)) cursor
        (λ e.
        pair_is (words_read (given_by r ds)) x y e
        ∙ pixel_in_words r wide ds cursor drawn 2 (cursor_position s x y) two (k e) (own_cursor x y e)
        ∙ sym (pair_is cursor x y e))
        ∙ video_same g s x y known.accepted (words_read (given_by q cs)) video cursor
        (λ e. pixel_in_words q long cs video fed s.depth (position s x y) known.accepted.depth (h e) (own_display x y e))

    -- Once all bytes are read, the whole frame.
    pub frame_live : 4 * length video ≤ length (given_by q cs) → 4 * length cursor ≤ length (given_by r ds) → (k : ℕ)
        → frame_cell g s (words_read (given_by q cs)) (words_read (given_by r ds)) k ≡ frame_cell g s video cursor k
    unfolding frame_cell
    frame_live all whole k =
        let x = k % s.n.0 in
        let y = k / s.n.0 in
        cell_live x y (λ e. omega (arith, own_display x y e)) (λ e. omega (arith, own_cursor x y e))
