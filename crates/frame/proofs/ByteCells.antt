-- The table of bytes: a byte's cells are its lowest pixel's and then those of the byte that is left without it.
use Prim.Native.Nat.{ℕ, zero, suc, ◌+◌, ◌*◌, ◌-◌, ◌/◌, ◌%◌, ◌^◌, ◌<◌, ◌≤◌}
use mathlib.Core.Path.{◌≡◌, sym, ap, ◌∙◌}
use mathlib.Core.List.{List}
use native.Mathlib.Nat.{mod-eq_of_lt, mod-lt, one-mul, mul_comm, mul-le-mul_right, div-one, zero-mul, zero-div, zero-mod, div-lt_iff_lt-mul}
use native.Mathlib.Omega.{arith}
use lib.Arith.{digits_div, digits_mod}
use lib.ListN.{get_or, replicate, get_or-replicate}
use lib.Pow.{pow_pos, pow_mono, shr-shr}
use Rattle.buffers.proofs.Paints.{Paints}
use Rattle.frame.specs.inner.Ink.{byte_ink, bytes_ink}
use Rattle.frame.proofs.Words.{part_room}

-- 2 ^ d as the machine makes it.
pub one_shifted : (d : ℕ) → d ≤ 4 → (1 * 2 ^ d) % 2 ^ 64 ≡ 2 ^ d
one_shifted d h = rw (one-mul (2 ^ d)) (mod-eq_of_lt (omega (arith, pow_mono h)))

pub low_bits : (x d : ℕ) → d ≤ 4 → x % ((1 * 2 ^ d) % 2 ^ 64) < 16
low_bits x d h = rw (one_shifted d h) (omega (arith, mod-lt x (pow_pos d), pow_mono h))

-- The byte that is left stands before in the table.
module _ (per d b : ℕ) (some : 0 < b) (deep : 0 < d) where
  pub rest_before : b / 2 ^ d < b
  rest_before = (div-lt_iff_lt-mul (pow_pos d)).1 (omega (arith, mul-le-mul_right b (pow_mono {i = 1} {j = d} deep), mul_comm b (2 ^ d)))

  pub rest_room : b / 2 ^ d * per + per ≤ b * per
  rest_room = part_room (b / 2 ^ d) b per rest_before

module _ (shades : List ℕ) (per d : ℕ) where
  bytes_at : (b j : ℕ) → j < per → bytes_ink shades per d (b * per + j) ≡ byte_ink shades b d j
  unfolding bytes_ink
  bytes_at b j h = rw (digits_div b h, digits_mod b h)

  -- All pixels of byte 0 are 0.
  pub first_same : (j : ℕ) → j < per → get_or shades 0 0 ≡ bytes_ink shades per d j
  unfolding byte_ink
  first_same j h =
      let whole : 0 * per + j ≡ j = omega (arith, zero-mul per) in
      let is : byte_ink shades 0 d j ≡ get_or shades 0 0 = rw (zero-div (2 ^ (j * d)), zero-mod (2 ^ d)) in
      sym is ∙ sym (bytes_at 0 j h) ∙ ap (λ (i : ℕ). bytes_ink shades per d i) whole

  -- A byte's cells: its lowest pixel's, and those of the byte that is left, which stand before it.
  module _ (b : ℕ) (some : 0 < b) (deep : 0 < d) where
    pub low_same : 0 < per → get_or shades (b % 2 ^ d) 0 ≡ bytes_ink shades per d (b * per)
    unfolding byte_ink
    low_same h =
        let e : b * per + 0 ≡ b * per = omega arith in
        let is : byte_ink shades b d 0 ≡ get_or shades (b % 2 ^ d) 0 = rw (zero-mul d, div-one b) in
        sym is ∙ sym (bytes_at b 0 h) ∙ ap (λ (i : ℕ). bytes_ink shades per d i) e

    pub rest_same : (j : ℕ) → suc j < per → bytes_ink shades per d (b / 2 ^ d * per + j) ≡ bytes_ink shades per d (b * per + suc j)
    unfolding byte_ink
    rest_same j h =
        let bits : d + j * d ≡ suc j * d = omega arith in
        let is : byte_ink shades (b / 2 ^ d) d j ≡ byte_ink shades b d (suc j) = rw (shr-shr b d (j * d), bits) in
        bytes_at (b / 2 ^ d) j (omega arith) ∙ is ∙ sym (bytes_at b (suc j) h)

    pub byte_cells : (o table cells : List ℕ) (m : ℕ) → m ≡ 2 ^ d → per ≤ 8 → Paints 0 o table 0 (b * per) (bytes_ink shades per d)
        → Paints 0 (replicate 8 (get_or shades (b % m) 0)) cells 1 per (λ n. get_or table (b / 2 ^ d * per + (n - 1)) 0)
        → (j : ℕ) → j < per → get_or cells j 0 ≡ bytes_ink shades per d (b * per + j)
    byte_cells o table cells m is few so_far made zero h =
        let e : b * per + 0 ≡ b * per = omega arith in
        rw e (made.low 0 (omega arith) ∙ get_or-replicate 8 0 (get_or shades (b % m) 0) 0 (omega arith) ∙ rw is (low_same h))
    byte_cells o table cells m is few so_far made (suc j) h =
        let e : suc j - 1 ≡ j = omega arith in
        made.on (suc j) (omega arith) h
        ∙ rw e
        (so_far.on (b / 2 ^ d * per + j) (omega arith) (omega (arith, rest_room per d b some deep)) ∙ rest_same j h)
