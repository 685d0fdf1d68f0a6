-- The exhibited lists: right in size, words of 32 bits, the pixel put there, and no other pixel changed. Over any depth.
use Prim.Native.Nat.{ℕ, ◌+◌, ◌*◌, ◌-◌, ◌/◌, ◌%◌, ◌^◌, ◌<◌, ◌≤◌}
use mathlib.Core.Path.{◌≡◌, sym, ◌∙◌, ap}
use mathlib.Core.List.{List}
use mathlib.Core.Logic.{◌⊎◌, inl, inr}
use native.Mathlib.Nat.{zero-div, zero-mod, lt_of_lt_of_le, add-mul, mul_assoc, mul-mod_left}
use native.Mathlib.Nat.{mod-eq_of_lt, mod-lt, div-eq_of_lt, div-add-mod', mul-le-mul_right, mul-lt-mul_of_pos_right}
use native.Mathlib.Omega.{arith}
use lib.ListN.{length, get_or, set, replicate, length-set, length-replicate, get_or-replicate, get_or-eq_default}
use lib.Pow.{pow-add, pow_mono, shl_lt, shl-shr, shr-shr}
use lib.Seq.{get_or-set_same, get_or-set_other}
use Rattle.buffers.proofs.Split.{lt_or_le}
use Rattle.buffers.specs.Words.{Below}
use Rattle.registers.specs.Setting.{raster_words, video_words}
use Rattle.registers.specs.declared.setting.Setting.{Setting}
use Rattle.registers.specs.inner.Accepted.{Depth, Accepted}
use Rattle.registers.proofs.Words.{depth_least, raster_bits, video_rasters}
use Rattle.cells.specs.Pixel.{pixel, position}
use Rattle.cells.specs.inner.Region.{InDisplay}
use Rattle.cells.proofs.PixelPlaces.{pixel_field}
use Rattle.cells.proofs.RasterWords.{fills_word}
use Rattle.cells.proofs.Regions.{display_on_holds}
use Rattle.claims.specs.Exhibited.{one_pixel}
use Rattle.claims.proofs.Bits.{by_cases}

-- A pixel put at field j of a word leaves every other field 0.
module _ (p d j k : ℕ) (small : p < 2 ^ d) where
  above : j < k → p * 2 ^ (j * d) / 2 ^ (k * d) % 2 ^ d ≡ 0
  above h =
      let m = k - j in
      let q : k ≡ j + m = omega arith in
      let e : k * d ≡ j * d + m * d = ap (λ (n : ℕ). n * d) q ∙ add-mul j m d in
      let big : d ≤ m * d = let q : 1 ≤ m = omega arith in omega (arith, mul-le-mul_right d q) in
      let none : p / 2 ^ (m * d) ≡ 0 = div-eq_of_lt (omega (arith, pow_mono big)) in
      rw (e, ← shr-shr (p * 2 ^ (j * d)) (j * d) (m * d), shl-shr p (j * d), none) (mod-eq_of_lt (omega arith))

  below : k < j → p * 2 ^ (j * d) / 2 ^ (k * d) % 2 ^ d ≡ 0
  below h =
      let r = j - k - 1 in
      let q : j ≡ r + 1 + k = omega arith in
      let e : j * d ≡ r * d + d + k * d = ap (λ (n : ℕ). n * d) q ∙ (omega (arith, add-mul (r + 1) k d, add-mul r 1 d)) in
      let split : p * 2 ^ (r * d + d + k * d) ≡ p * 2 ^ (r * d) * 2 ^ d * 2 ^ (k * d) =
      rw (pow-add 2 (r * d + d) (k * d), pow-add 2 (r * d) d) (omega arith) in
      rw (e, split, shl-shr (p * 2 ^ (r * d) * 2 ^ d) (k * d)) (mul-mod_left (p * 2 ^ (r * d)) (2 ^ d))

  pub other_field : (j ≡ k → ⊥) → p * 2 ^ (j * d) / 2 ^ (k * d) % 2 ^ d ≡ 0
  other_field apart =
      elim (lt_or_le j k) [
        | inl h ↦ above h
        | inr h ↦ below (let n : k ≡ j → ⊥ = λ q. apart (sym q) in omega (arith, n))
      ]

abbrev blank : ℕ → List ℕ
blank n = replicate n 0

length_blank : (n : ℕ) → length (blank n) ≡ n
length_blank n = length-replicate {A = ℕ} n 0

blank_at : (n i : ℕ) → get_or (blank n) i 0 ≡ 0
blank_at n i =
    elim (lt_or_le i n) [
      | inl h ↦ get_or-replicate n i 0 0 h
      | inr h ↦ get_or-eq_default (blank n) 0 (rw (length_blank n) h)
    ]

-- Zero words, but for field j of word q, n fields to a word.
module _ (words q d n j p : ℕ) (fills : n * d ≡ 32) (here : q < words) (fits : j < n) (small : p < 2 ^ d) where
  abbrev put : List ℕ
  put = set (blank words) q (p * 2 ^ (j * d))

  word_here : get_or put q 0 ≡ p * 2 ^ (j * d)
  word_here = get_or-set_same (blank words) q (p * 2 ^ (j * d)) 0 (rw (length_blank words) here)

  word_other : (r : ℕ) → (r ≡ q → ⊥) → get_or put r 0 ≡ 0
  word_other r apart = get_or-set_other (blank words) q r (p * 2 ^ (j * d)) 0 apart ∙ blank_at words r

  field_here : pixel put d (q * n + j) ≡ p
  field_here = pixel_field put d n q j fills fits ∙ rw (word_here, shl-shr p (j * d)) (mod-eq_of_lt small)

  nothing : (e : ℕ) → 0 / 2 ^ e % 2 ^ d ≡ 0
  nothing e = rw (zero-div (2 ^ e)) (zero-mod (2 ^ d))

  field_other : (r k : ℕ) → k < n → (r * n + k ≡ q * n + j → ⊥) → pixel put d (r * n + k) ≡ 0
  field_other r k h apart = pixel_field put d n r k fills h ∙ go (by_cases r q)
    where
      go : (r ≡ q) ⊎ (r ≡ q → ⊥) → get_or put r 0 / 2 ^ (k * d) % 2 ^ d ≡ 0
      go (inl e) = rw (e, word_here) (other_field p d j k small (λ f. apart (rw (e, f))))
      go (inr e) = rw (word_other r e) (nothing (k * d))

  words_below : Below (2 ^ 32) put
  words_below i = go (by_cases i q)
    where
      go : (i ≡ q) ⊎ (i ≡ q → ⊥) → get_or put i 0 < 2 ^ 32
      go (inl e) =
          let top : d + j * d ≤ 32 = omega (arith, mul-le-mul_right d fits) in
          rw (e, word_here) (lt_of_lt_of_le (shl_lt d (j * d) small) (pow_mono top))
      go (inr e) = rw (word_other i e) (omega arith)

-- The position of a displayed pixel is one of those that the words hold.
module _ (s : Setting) (a : Accepted s) (x y : ℕ) (here : InDisplay s x y) where
  position_below : position s x y < (s.vde.0 - s.vds.0) * (s.de.0 - s.ds.0)
  position_below =
      let row : y - s.vds.0 + 1 ≤ s.vde.0 - s.vds.0 = omega (arith, here.above, here.below) in
      let col : x - s.ds.0 < s.de.0 - s.ds.0 = omega (arith, here.left, here.right) in
      omega (arith, mul-le-mul_right (s.de.0 - s.ds.0) row)

  position_bits : position s x y * s.depth < video_words s * 32
  position_bits =
      let w = s.de.0 - s.ds.0 in
      let h = s.vde.0 - s.vds.0 in
      let all : h * w * s.depth ≡ video_words s * 32 =
      rw (video_rasters s a (display_on_holds s x y here), mul_assoc h w s.depth, mul_assoc h (raster_words s) 32, raster_bits s a) in
      omega (arith, all, mul-lt-mul_of_pos_right position_below (depth_least a.depth))

  abbrev fields : ℕ
  fields = 32 / s.depth

  fields_fill : fields * s.depth ≡ 32
  fields_fill = fills_word a.depth

  -- Word and field of a position.
  split : (i : ℕ) → i ≡ i / fields * fields + i % fields
  split i = sym (div-add-mod' i fields)

  field_below : (i : ℕ) → i % fields < fields
  field_below i = mod-lt i (fields_least a.depth)
    where
      fields_least : {d : ℕ} → Depth d → 0 < 32 / d
      fields_least (inl e) = rw e (omega arith)
      fields_least (inr (inl e)) = rw e (omega arith)
      fields_least (inr (inr (inl e))) = rw e (omega arith)
      fields_least (inr (inr (inr e))) = rw e (omega arith)

  bits : (i : ℕ) → i * s.depth ≡ i / fields * 32 + i % fields * s.depth
  bits i =
      ap (λ (n : ℕ). n * s.depth) (split i)
      ∙ add-mul (i / fields * fields) (i % fields) s.depth
      ∙ ap (λ (n : ℕ). n + i % fields * s.depth) (mul_assoc (i / fields) fields s.depth ∙ ap (λ (n : ℕ). i / fields * n) fields_fill)

  low_bits : (i : ℕ) → i % fields * s.depth < 32
  low_bits i = omega (arith, mul-lt-mul_of_pos_right (field_below i) (depth_least a.depth), fields_fill)

  module _ (p : ℕ) (small : p < 2 ^ s.depth) where
    abbrev at : ℕ
    at = position s x y

    word_in : at / fields < video_words s
    word_in = omega (arith, bits at, position_bits)

    as_put : one_pixel s x y p ≡ set (blank (video_words s)) (at / fields) (p * 2 ^ (at % fields * s.depth))
    unfolding one_pixel
    as_put =
        let q : at * s.depth / 32 ≡ at / fields = omega (arith, bits at, low_bits at) in
        let r : at * s.depth % 32 ≡ at % fields * s.depth = omega (arith, bits at, low_bits at) in
        rw (q, r)

    pub one_size : length (one_pixel s x y p) ≡ video_words s
    one_size = rw as_put (length-set (blank (video_words s)) _ _ ∙ length_blank (video_words s))

    pub one_words : Below (2 ^ 32) (one_pixel s x y p)
    one_words = rw as_put (words_below (video_words s) (at / fields) s.depth fields (at % fields) p fields_fill word_in (field_below at) small)

    -- The pixel that was put there, and 0 everywhere else.
    pub one_here : pixel (one_pixel s x y p) s.depth at ≡ p
    one_here =
        rw as_put
        (ap (pixel _ s.depth) (split at)
        ∙ field_here (video_words s) (at / fields) s.depth fields (at % fields) p fields_fill word_in (field_below at) small)

    pub one_other : (i : ℕ) → (i ≡ at → ⊥) → pixel (one_pixel s x y p) s.depth i ≡ 0
    one_other i apart =
        rw as_put
        (ap (pixel _ s.depth) (split i)
        ∙ field_other (video_words s) (at / fields) s.depth fields (at % fields) p fields_fill word_in (field_below at) small
        (i / fields) (i % fields) (field_below i) (λ e. apart (split i ∙ e ∙ sym (split at))))
