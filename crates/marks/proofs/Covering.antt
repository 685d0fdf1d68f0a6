-- Where a displayed position's pixel stands, and what the cursor covers at one of its positions.
use Prim.Native.Nat.{ℕ, ◌+◌, ◌*◌, ◌-◌, ◌/◌, ◌%◌, ◌^◌, ◌<◌, ◌≤◌}
use mathlib.Core.Bool.{Bool, true, false, ◌&&◌}
use mathlib.Core.List.{List}
use mathlib.Core.Path.{◌≡◌, refl, sym, ◌∙◌, ap}
use native.Mathlib.Nat.{mul_assoc, add-sub_cancel_left, mul-lt-mul_of_pos_right}
use native.Mathlib.Omega.{arith}
use borrow.Author.Tests.{eq-eqb, ne_eqb}
use lib.Arith.{digits_lt}
use lib.Dec.{eqb}
use lib.ListN.{length, get_or}
use lib.Pow.{pow_mono}
use Rattle.buffers.specs.Pick.{pick}
use Rattle.buffers.proofs.Tests.{no, and_split}
use Rattle.buffers.proofs.Split.{is_false}
use Rattle.buffers.proofs.Product.{product_below}
use Rattle.registers.specs.Setting.{raster_words, video_words, cursor_words}
use Rattle.registers.specs.declared.setting.Setting.{Setting}
use Rattle.registers.specs.inner.Accepted.{Accepted}
use Rattle.registers.proofs.Accepted.{cursor_off, cursor_words_holds}
use Rattle.registers.proofs.Words.{raster_bits, depth_least, depth_most, video_rasters, cursor_raster_holds}
use Rattle.cells.specs.Pixel.{pixel, position, logical, cursor_pair}
use Rattle.cells.specs.Cell.{in_display, plain_code, covered}
use Rattle.cells.proofs.PixelPlaces.{pixel_below}
use Rattle.cells.specs.inner.Region.{InDisplay, Reached}
use Rattle.cells.specs.inner.Known.{Picture}
use Rattle.cells.proofs.Regions.{display_inside, inside_display, display_on_holds, display_bordered, covered_shown, reached_covered, plain_five}
use Rattle.marks.specs.inner.Bright.{OnCursor, cursor_bright, raster_bright, cursor_raster, covered_all}
use Rattle.marks.specs.Count.{total}
use Rattle.marks.proofs.Totals.{total_none}

module _ (s : Setting) (x y : ℕ) (a : Accepted s) (h : InDisplay s x y) where
  pub rows_small : (y - s.vds.0) * (s.de.0 - s.ds.0) < 1025 * 2049
  rows_small =
      let v = a.display (display_on_holds s x y h) in
      let high : y - s.vds.0 < 1025 = omega arith in
      let wide : s.de.0 - s.ds.0 < 2049 = omega arith in
      product_below (y - s.vds.0) (s.de.0 - s.ds.0) high wide

  pub position_small : position s x y < 2 ^ 32
  position_small = omega (arith, rows_small, a.n_most)

  -- The pixel's bits stand in the words.
  pub pixel_room : (n : ℕ) → n ≡ video_words s → position s x y * s.depth < n * 32
  pixel_room n e =
      let w = s.de.0 - s.ds.0 in
      let high = s.vde.0 - s.vds.0 in
      let r : y - s.vds.0 < high = omega arith in
      let p : x - s.ds.0 < w = omega arith in
      let bits : high * w * s.depth ≡ n * 32 =
      rw (e, video_rasters s a (display_on_holds s x y h), mul_assoc, mul_assoc high (raster_words s) 32, raster_bits s a) in
      rw (← bits) (mul-lt-mul_of_pos_right (digits_lt r p) (depth_least a.depth))

pub pixel_entry : (s : Setting) (ws : List ℕ) (i : ℕ) → Accepted s → pixel ws s.depth i < 256
pixel_entry s ws i a = omega (arith, pixel_below ws s.depth i, pow_mono {j = 8} (depth_most a.depth))

module _ (s : Setting) (video cursor pixels : List ℕ) (a : Accepted s) (y i : ℕ) where
  -- Outside the display, and where the pair is 00, nothing is covered.
  pub cursor_out : (InDisplay s (s.cx.0 + i) y → ⊥) → 0 ≡ cursor_bright s video cursor pixels y i
  unfolding cursor_bright
  cursor_out h =
      let x = s.cx.0 + i in
      let off : eqb (plain_code s x y) 5 ≡ false = plain_five s a x y ∙ is_false (in_display s x y) (λ e. h (display_inside s x y e)) in
      rw off

  pub cursor_clear : cursor_pair s cursor y i ≡ 0 → 0 ≡ cursor_bright s video cursor pixels y i
  unfolding cursor_bright
  cursor_clear e =
      let x = s.cx.0 + i in
      let back : cursor_pair s cursor y (x - s.cx.0) ≡ 0 = ap (cursor_pair s cursor y) (add-sub_cancel_left s.cx.0 i) ∙ e in
      let off : (eqb (plain_code s x y) 5 && covered s cursor x y) ≡ false =
      is_false (eqb (plain_code s x y) 5 && covered s cursor x y)
      (λ t. let shown = covered_shown s x y cursor (and_split (eqb (plain_code s x y) 5) (covered s cursor x y) t).1 in
      no (sym shown ∙ eq-eqb (cursor_pair s cursor y (x - s.cx.0)) 0 back)) in
      rw off

  pub cursor_shown : InDisplay s (s.cx.0 + i) y → Reached s (s.cx.0 + i) y → (cursor_pair s cursor y i ≡ 0 → ⊥)
      → get_or pixels (logical s video (s.cx.0 + i) y) 0 ≡ cursor_bright s video cursor pixels y i
  unfolding cursor_bright
  cursor_shown d c some =
      let x = s.cx.0 + i in
      let five : eqb (plain_code s x y) 5 ≡ true = plain_five s a x y ∙ inside_display s x y d in
      let back : cursor_pair s cursor y (x - s.cx.0) ≡ cursor_pair s cursor y i = ap (cursor_pair s cursor y) (add-sub_cancel_left s.cx.0 i) in
      rw (five, reached_covered s a x y cursor c, ne_eqb (cursor_pair s cursor y (x - s.cx.0)) 0 (λ e. some (sym back ∙ e)))

module _ (s : Setting) (cursor : List ℕ) (j : ℕ) where
  pub pair_is : (i : ℕ) → cursor_pair s cursor (s.vcs.0 + j) i ≡ get_or cursor (2 * j + i / 16) 0 / 2 ^ (2 * (i % 16)) % 4
  unfolding cursor_pair
  pair_is i = rw (add-sub_cancel_left s.vcs.0 j)

  pub raster_small : {video : List ℕ} → Picture s video cursor → j < length cursor / 2 → s.vcs.0 + j < 1024
  raster_small r l =
      let c = cursor_raster_holds s j (rw r.cursor_words at l) in
      omega (arith, r.accepted.cursor c.on, r.accepted.v_most)

  module _ (o : OnCursor s cursor j) where
    pub raster_displayed : (x : ℕ) → s.ds.0 ≤ x → x < s.de.0 → InDisplay s x (s.vcs.0 + j)
    raster_displayed x l m = record { left = l; right = m; above = o.vds_y; below = o.y_vde }

    pub raster_reached : {video : List ℕ} (i : ℕ) → Picture s video cursor → i < 32 → InDisplay s (s.cx.0 + i) (s.vcs.0 + j)
        → Reached s (s.cx.0 + i) (s.vcs.0 + j)
    raster_reached i r l d =
        let c = cursor_raster_holds s j (rw r.cursor_words at o.here) in
        record {
          on = c.on;
          border = display_bordered s r.accepted (s.cx.0 + i) (s.vcs.0 + j) d;
          cursor = record { left = omega arith; right = omega arith; above = omega arith; below = c.y_vce };
        }

module _ (s : Setting) (video cursor pixels : List ℕ) (a : Accepted s) where
  pub raster_out : (j : ℕ) → ((x : ℕ) → InDisplay s x (s.vcs.0 + j) → ⊥) → 0 ≡ cursor_raster s video cursor pixels j
  unfolding cursor_raster raster_bright
  raster_out j h =
      sym (total_none (cursor_bright s video cursor pixels (s.vcs.0 + j)) 32
      (λ i l. sym (cursor_out s video cursor pixels a (s.vcs.0 + j) i (h (s.cx.0 + i)))))

  covered_by : (on : Bool) → s.cursor ≡ on → length cursor ≡ cursor_words s
      → total (cursor_raster s video cursor pixels) (length cursor / 2) ≡ pick on (total (cursor_raster s video cursor pixels) (s.vce.0 - s.vcs.0)) 0
  unfolding total
  covered_by true on e =
      let end : length cursor / 2 ≡ s.vce.0 - s.vcs.0 = omega (arith, e ∙ cursor_words_holds s on) in
      ap (total (cursor_raster s video cursor pixels)) end
  covered_by false off e =
      let end : length cursor / 2 ≡ 0 = omega (arith, e ∙ cursor_off s off) in
      ap (total (cursor_raster s video cursor pixels)) end

  pub covered_words : length cursor ≡ cursor_words s → total (cursor_raster s video cursor pixels) (length cursor / 2) ≡ covered_all s video cursor pixels
  unfolding covered_all
  covered_words e = covered_by s.cursor refl e
