-- What mixing hides of a camera: every place whose cell does not show it, and nothing else. And each mixed number has 12 bits.
use Prim.Native.Nat.{ℕ, zero, suc, ◌+◌, ◌<◌, ◌≤◌}
use mathlib.Core.Bool.{Bool, true, false}
use mathlib.Core.List.{List}
use mathlib.Core.Logic.{◌↔◌}
use mathlib.Core.Path.{◌≡◌, refl, sym, ◌∙◌, ap}
use native.Mathlib.Nat.{zero-add}
use native.Mathlib.Omega.{arith}
use lib.ListN.{get_or}
use Rattle.buffers.specs.Bits.{bits}
use Rattle.buffers.specs.Pick.{pick}
use Rattle.buffers.specs.Values.{values_from}
use Rattle.buffers.proofs.Values.{get_d_values}
use Rattle.mixing.specs.Mix.{shows_camera, mixed_at, mixed_raster, AgreeWhereShown}

-- Two rules that agree at n places from k on have the same values there.
values_as : (f h : ℕ → ℕ) (k n : ℕ) → ((i : ℕ) → k ≤ i → i < k + n → f i ≡ h i) → values_from f k n ≡ values_from h k n
unfolding values_from
values_as f h k zero same = refl
values_as f h k (suc n) same =
    rw (same k (omega arith) (omega arith), values_as f h (suc k) n (λ i a b. same i (omega arith) (omega arith)))

module _ (cells camera other : List ℕ) (n : ℕ) where
  same_at : (x : ℕ) → mixed_raster cells camera n ≡ mixed_raster cells other n → x < n → mixed_at cells camera x ≡ mixed_at cells other x
  same_at x e h =
      ap (mixed_at cells camera) (sym (zero-add x)) ∙ sym (get_d_values (mixed_at cells camera) 0 n x h)
      ∙ ap (λ (l : List ℕ). get_or l x 0) e
      ∙ get_d_values (mixed_at cells other) 0 n x h ∙ ap (mixed_at cells other) (zero-add x)

  agree_at : (x : ℕ) (shown : Bool) → shows_camera (get_or cells x 0) ≡ shown → (shown ≡ true → get_or camera x 0 ≡ get_or other x 0)
      → mixed_at cells camera x ≡ mixed_at cells other x
  agree_at x true e h = rw e (h refl)
  agree_at x false e h = rw e

  -- Two cameras give the same mixed raster exactly when they agree where the camera is shown.
  pub hidden : (mixed_raster cells camera n ≡ mixed_raster cells other n) ↔ AgreeWhereShown cells n camera other
  hidden = (
    λ e x h shows. rw shows at (same_at x e h),
    λ agree.
        values_as (mixed_at cells camera) (mixed_at cells other) 0 n
        (λ i a b. agree_at i (shows_camera (get_or cells i 0)) refl (agree i (omega arith))),
  )

-- What is shown over a camera's number of 12 bits has 12 bits.
pub mixed_few : (cells camera : List ℕ) (x : ℕ) → get_or camera x 0 ≤ 4095 → mixed_at cells camera x < 4096
mixed_few cells camera x few = go (shows_camera (get_or cells x 0))
  where
    go : (shown : Bool) → pick shown (get_or camera x 0) (bits 11 0 (get_or cells x 0)) < 4096
    go true = omega (arith, few)
    go false = omega arith
