-- Demand 3: what a frame tells of its video list, and two lists that it cannot tell apart. Once for every depth.
use Prim.Native.Nat.{ℕ, ◌+◌, ◌*◌, ◌/◌, ◌%◌, ◌^◌, ◌<◌, ◌≤◌}
use mathlib.Core.Path.{◌≡◌, sym, ◌∙◌, ap}
use mathlib.Core.Bool.{true, not}
use mathlib.Core.List.{List}
use mathlib.Core.Logic.{◌⊎◌, inl, inr, ◌↔◌}
use native.Mathlib.Nat.{mul-le-mul_right, mul_comm}
use native.Mathlib.Omega.{arith}
use lib.Arith.{digits_div, digits_mod}
use lib.ListN.{length, get_or, take}
use lib.Seq.{ext_get_or, get_or-take, length-take-le}
use Rattle.buffers.proofs.Tests.{and_split}
use Rattle.refusals.specs.Table.{given}
use Rattle.registers.specs.Setting.{setting_of, cursor_words}
use Rattle.registers.specs.Check.{check_told}
use Rattle.registers.specs.declared.record.Registers.{Registers}
use Rattle.registers.specs.declared.setting.Setting.{Setting}
use Rattle.registers.specs.inner.Accepted.{Accepted}
use Rattle.registers.proofs.Accepted.{accepted}
use Rattle.colours.specs.Colour.{colour_of}
use Rattle.cells.specs.Pixel.{pixel, position, logical}
use Rattle.cells.specs.Cell.{in_display, covered}
use Rattle.frame.specs.Frame.{cells}
use Rattle.cells.specs.inner.Region.{InDisplay}
use Rattle.cells.proofs.Pictures.{picture_checked, picture_given}
use Rattle.cells.proofs.Regions.{display_inside, display_on_holds}
use Rattle.cells.proofs.PixelPlaces.{pixel_below}
use Rattle.claims.specs.Shown.{Distinct, Alike, uncovered, SamePixels, frame_in}
use Rattle.claims.specs.Exhibited.{one_pixel, Confused}
use Rattle.claims.specs.Calls.{Every}
use Rattle.claims.specs.Views as call
use Rattle.claims.specs.Framed.{On, Right, Framed}
use Rattle.claims.proofs.Bits.{by_cases}
use Rattle.claims.proofs.ColoursTold.{colour_tells, alike_colour}
use Rattle.claims.proofs.Cells.{same_cell, told_colour}
use Rattle.claims.proofs.Runs.{framed}
use Rattle.claims.proofs.Lists.{one_size, one_words, one_here, one_other}

uncovered_displayed : (s : Setting) (cursor : List ℕ) (x y : ℕ) → uncovered s cursor x y ≡ true → InDisplay s x y
unfolding uncovered
uncovered_displayed s cursor x y u = display_inside s x y (and_split (in_display s x y) (not (covered s cursor x y)) u).0

-- A displayed position's place in the frame.
module _ (s : Setting) (a : Accepted s) (x y : ℕ) (here : InDisplay s x y) where
  place_below : y * s.n.0 + x < cells s
  place_below =
      let d = a.display (display_on_holds s x y here) in
      let wide : x < s.n.0 = omega (arith, here.right, a.de_be, a.be_n) in
      let high : y + 1 ≤ s.v.0 = omega (arith, here.below, d.vde_vbe, d.vbe_v) in
      omega (arith, mul-le-mul_right s.n.0 high, mul_comm s.n.0 s.v.0)

  in_line_holds : x < s.n.0
  in_line_holds = omega (arith, here.right, a.de_be, a.be_n)

-- The setting's depth is the record's.
distinct_pixels : (g : Registers) → Distinct g → (p q : ℕ) → p < 2 ^ (setting_of g).depth → q < 2 ^ (setting_of g).depth
    → colour_of g (setting_of g).depth p ≡ colour_of g (setting_of g).depth q → p ≡ q
unfolding setting_of
distinct_pixels g = colour_tells g

alike_pixels : (g : Registers) (i j : ℕ) → Alike g i j
    → (colour_of g (setting_of g).depth i ≡ colour_of g (setting_of g).depth j) × (i < 2 ^ (setting_of g).depth) × (j < 2 ^ (setting_of g).depth)
unfolding setting_of
alike_pixels g = alike_colour g

module _ {g : Registers} {cursor video other before after before' after' : List ℕ} (good : check_told g ≡ given (setting_of g))
    (room : cells (setting_of g) ≤ length before) (room' : cells (setting_of g) ≤ length before')
    (first : Framed g video cursor before after) (second : Framed g other cursor before' after') where
  abbrev s : Setting
  s = setting_of g

  -- Frames with the same colours at uncovered positions are the same,
  same_frame : ((x y : ℕ) → uncovered s cursor x y ≡ true → colour_of g s.depth (logical s video x y) ≡ colour_of g s.depth (logical s other x y))
      → frame_in s after ≡ frame_in s after'
  same_frame h = ext_get_or 0 (take (cells s) after) (take (cells s) after') (long ∙ sym long') each
    where
      long : length (take (cells s) after) ≡ cells s
      long = length-take-le (cells s) after (rw first.long room)

      long' : length (take (cells s) after') ≡ cells s
      long' = length-take-le (cells s) after' (rw second.long room')

      each : (k : ℕ) → k < length (take (cells s) after) → get_or (take (cells s) after) k 0 ≡ get_or (take (cells s) after') k 0
      each k l =
          let in_frame : k < cells s = omega (arith, long) in
          get_or-take (cells s) after k 0 in_frame
          ∙ first.each k in_frame
          ∙ same_cell g s (accepted g s good) cursor (k % s.n.0) (k / s.n.0) video other (h (k % s.n.0) (k / s.n.0))
          ∙ sym (second.each k in_frame)
          ∙ sym (get_or-take (cells s) after' k 0 in_frame)

  -- and only those.
  same_colour : frame_in s after ≡ frame_in s after' → (x y : ℕ) → uncovered s cursor x y ≡ true
      → colour_of g s.depth (logical s video x y) ≡ colour_of g s.depth (logical s other x y)
  same_colour e x y u =
      let a = accepted g s good in
      let here = uncovered_displayed s cursor x y u in
      let k = y * s.n.0 + x in
      let in_frame : k < cells s = place_below s a x y here in
      let line : k / s.n.0 ≡ y = digits_div y (in_line_holds s a x y here) in
      let column : k % s.n.0 ≡ x = digits_mod y (in_line_holds s a x y here) in
      let same : get_or after k 0 ≡ get_or after' k 0 =
      sym (get_or-take (cells s) after k 0 in_frame) ∙ ap (λ (l : List ℕ). get_or l k 0) e ∙ get_or-take (cells s) after' k 0 in_frame in
      told_colour g s a cursor x y video other u
      (rw (column, line) at (sym (first.each k in_frame) ∙ same ∙ second.each k in_frame))

  tells : Distinct g → (frame_in s after ≡ frame_in s after') ↔ SamePixels s cursor video other
  tells distinct = (
    λ e x y u.
        distinct_pixels g distinct (logical s video x y) (logical s other x y)
        (pixel_below video s.depth (position s x y)) (pixel_below other s.depth (position s x y)) (same_colour e x y u),
    λ h. same_frame (λ x y u. ap (colour_of g s.depth) (h x y u)),
  )

-- Where any two different entries in use differ in a shown bit: two runs of the frame call leave the same frame exactly when
-- their video lists give the same logical pixel at every display position that the cursor leaves uncovered.
pub frame_tells_pixels : {g : Registers} {cursor video other : List ℕ} → Distinct g
    → Every call.frame λ run. Every call.frame λ run'. On g video cursor run → On g other cursor run'
    → Right g video cursor run.before → Right g other cursor run'.before
    → (frame_in (setting_of g) run.after ≡ frame_in (setting_of g) run'.after) ↔ SamePixels (setting_of g) cursor video other
frame_tells_pixels {g} {cursor} {video} distinct κs a x s p κs' a' x' s' p' on on' r r' =
    tells (picture_checked g video cursor (setting_of g) r.picture) r.room r'.room (framed κs a x s p on r) (framed κs' a' x' s' p' on' r') distinct

-- Pixels of the exhibited lists have the same colour at every position.
like_colours : (g : Registers) (i j x y : ℕ) (a : Accepted (setting_of g)) → InDisplay (setting_of g) x y → Alike g i j → (v w : ℕ)
    → colour_of g (setting_of g).depth (logical (setting_of g) (one_pixel (setting_of g) x y i) v w)
    ≡ colour_of g (setting_of g).depth (logical (setting_of g) (one_pixel (setting_of g) x y j) v w)
like_colours g i j x y a here alike v w = go (by_cases (position s v w) (position s x y))
  where
    s : Setting
    s = setting_of g

    like : (colour_of g (setting_of g).depth i ≡ colour_of g (setting_of g).depth j) × (i < 2 ^ (setting_of g).depth) × (j < 2 ^ (setting_of g).depth)
    like = alike_pixels g i j alike

    go : (position s v w ≡ position s x y) ⊎ (position s v w ≡ position s x y → ⊥)
        → colour_of g s.depth (pixel (one_pixel s x y i) s.depth (position s v w))
        ≡ colour_of g s.depth (pixel (one_pixel s x y j) s.depth (position s v w))
    go (inl e) =
        ap (λ (n : ℕ). colour_of g s.depth (pixel (one_pixel s x y i) s.depth n)) e
        ∙ ap (colour_of g s.depth) (one_here s a x y here i like.1)
        ∙ like.0
        ∙ sym (ap (colour_of g s.depth) (one_here s a x y here j like.2))
        ∙ sym (ap (λ (n : ℕ). colour_of g s.depth (pixel (one_pixel s x y j) s.depth n)) e)
    go (inr e) =
        ap (colour_of g s.depth) (one_other s a x y here i like.1 (position s v w) e ∙ sym (one_other s a x y here j like.2 (position s v w) e))

-- Where two entries in use agree in all shown bits and a display position is uncovered, the exhibited lists are such.
pub frame_confuses : (g : Registers) (cursor : List ℕ) (i j x y : ℕ)
    → check_told g ≡ given (setting_of g) → length cursor ≡ cursor_words (setting_of g)
    → Alike g i j → uncovered (setting_of g) cursor x y ≡ true
    → Confused g cursor (one_pixel (setting_of g) x y i) (one_pixel (setting_of g) x y j)
frame_confuses g cursor i j x y good size alike u =
    let own = setting_of g in
    let a = accepted g own good in
    let here = uncovered_displayed own cursor x y u in
    let like = alike_pixels g i j alike in
    let size_i = one_size own a x y here i like.1 in
    let size_j = one_size own a x y here j like.2 in
    record {
      different = λ e.
          alike.places
          (sym (one_here own a x y here i like.1) ∙ ap (λ (l : List ℕ). pixel l own.depth (position own x y)) e ∙ one_here own a x y here j like.2);
      video_size = size_i;
      other_size = size_j;
      video_words = one_words own a x y here i like.1;
      other_words = one_words own a x y here j like.2;
      one_frame = λ κs b r s p κs' b' r' s' p' on on' room room'.
          same_frame good room room'
          (framed κs b r s p on (record { picture = picture_given g (one_pixel own x y i) cursor own good size_i size; room = room }))
          (framed κs' b' r' s' p' on' (record { picture = picture_given g (one_pixel own x y j) cursor own good size_j size; room = room' }))
          (λ v w t. like_colours g i j x y a here alike v w);
    }
