-- The words of a displayed raster, and of a frame's rasters, in an accepted setting.
use Prim.Native.Nat.{ℕ, ◌+◌, ◌*◌, ◌-◌, ◌/◌, ◌<◌, ◌≤◌}
use mathlib.Core.Bool.{Bool, true, false}
use mathlib.Core.Logic.{⊎_elim}
use mathlib.Core.Path.{◌≡◌, refl, ◌∙◌}
use native.Mathlib.Nat.{mul_assoc, mul_comm, mul-le-mul}
use native.Mathlib.Omega.{arith}
use Rattle.registers.specs.Setting.{display_on, raster_words, video_words, cursor_words}
use Rattle.registers.specs.declared.setting.Setting.{Setting}
use Rattle.registers.specs.inner.Accepted.{Depth, Accepted}
use Rattle.registers.proofs.Accepted.{video_off, video_on, cursor_off, cursor_words_holds}

pub depth_least : {d : ℕ} → Depth d → 0 < d
depth_least h = ⊎_elim (λ e. omega arith) (⊎_elim (λ e. omega arith) (⊎_elim (λ e. omega arith) (λ e. omega arith))) h

pub depth_most : {d : ℕ} → Depth d → d ≤ 8
depth_most h = ⊎_elim (λ e. omega arith) (⊎_elim (λ e. omega arith) (⊎_elim (λ e. omega arith) (λ e. omega arith))) h

pub raster_words_holds : (s : Setting) → raster_words s ≡ (s.de.0 - s.ds.0) * s.depth / 32
unfolding raster_words
raster_words_holds s = refl

module _ (s : Setting) (a : Accepted s) where
  pub raster_bits : raster_words s * 32 ≡ (s.de.0 - s.ds.0) * s.depth
  unfolding raster_words
  raster_bits = omega (arith, a.whole)

  pub raster_most : raster_words s ≤ 512
  unfolding raster_words
  raster_most =
      let wide : s.de.0 - s.ds.0 ≤ 2048 = omega (arith, a.de_be, a.be_n, a.n_most) in
      let most : (s.de.0 - s.ds.0) * s.depth ≤ 2048 * 8 = mul-le-mul wide (depth_most a.depth) in
      omega arith

  -- The words of each displayed raster, one after another.
  pub video_rasters : display_on s ≡ true → video_words s ≡ (s.vde.0 - s.vds.0) * raster_words s
  video_rasters on =
      let w = s.de.0 - s.ds.0 in
      let h = s.vde.0 - s.vds.0 in
      let bits : w * h * s.depth ≡ h * raster_words s * 32 =
      rw (mul_comm w h, mul_assoc h w s.depth, mul_assoc h (raster_words s) 32, raster_bits) in
      video_on s on ∙ rw bits (omega arith)

  video_most_by : (on : Bool) → display_on s ≡ on → video_words s ≤ 1024 * 512
  video_most_by true on =
      let high : s.vde.0 - s.vds.0 ≤ 1024 = omega (arith, a.vde_most) in
      rw (video_rasters on) (mul-le-mul high raster_most)
  video_most_by false off = rw (video_off s off) (omega arith)

  pub video_most : video_words s ≤ 1024 * 512
  video_most = video_most_by (display_on s) refl

  cursor_most_by : (on : Bool) → s.cursor ≡ on → cursor_words s ≤ 2048
  cursor_most_by true on = omega (arith, cursor_words_holds s on, a.vce_most)
  cursor_most_by false off = omega (arith, cursor_off s off)

  pub cursor_most : cursor_words s ≤ 2048
  cursor_most = cursor_most_by s.cursor refl

-- A cursor raster that has words is one of an on cursor.
pub record CursorRaster (s : Setting) (j : ℕ) : Type 0 where
  pub on : s.cursor ≡ true
  pub y_vce : s.vcs.0 + j < s.vce.0

cursor_raster_by : (s : Setting) (j : ℕ) (on : Bool) → s.cursor ≡ on → j < cursor_words s / 2 → CursorRaster s j
cursor_raster_by s j true on l = record { on = on; y_vce = omega (arith, cursor_words_holds s on) }
cursor_raster_by s j false off l = absurd (omega (arith, cursor_off s off))

pub cursor_raster_holds : (s : Setting) (j : ℕ) → j < cursor_words s / 2 → CursorRaster s j
cursor_raster_holds s j l = cursor_raster_by s j s.cursor refl l
