-- Grey and the guns: no gun darker is no darker grey, a brighter one is a brighter grey, and white alone is the brightest.
use Prim.Native.Nat.{ℕ, ◌+◌, ◌*◌, ◌≤◌, ◌<◌}
use mathlib.Core.Path.{◌≡◌, ap, ◌∙◌}
use mathlib.Core.Logic.{◌↔◌}
use native.Mathlib.Omega.{arith}
use Rattle.buffers.specs.Bits.{bits}
use Rattle.colours.specs.Guns.{red_gun, green_gun, blue_gun}
use Rattle.colours.specs.Grey.{grey_of}

module _ (a b : ℕ) (red : red_gun a ≤ red_gun b) (green : green_gun a ≤ green_gun b) (blue : blue_gun a ≤ blue_gun b) where
  pub no_darker : grey_of a ≤ grey_of b
  no_darker = omega arith

  -- A single step of a single gun is seen: the least weight, 29, times 17 is more than 256.
  pub brighter : red_gun a + green_gun a + blue_gun a < red_gun b + green_gun b + blue_gun b → grey_of a < grey_of b
  brighter more = omega arith

-- Bits above 11 play no part.
pub grey_of_guns : (c : ℕ) → grey_of c ≡ grey_of (bits 11 0 c)
grey_of_guns c = same_guns c (bits 11 0 c) (omega arith) (omega arith) (omega arith)
  where
    same_guns : (a b : ℕ) → red_gun a ≡ red_gun b → green_gun a ≡ green_gun b → blue_gun a ≡ blue_gun b → grey_of a ≡ grey_of b
    same_guns a b red green blue = omega arith

-- The twelve bits are the guns.
guns : (c : ℕ) → bits 11 0 c ≡ red_gun c + 16 * green_gun c + 256 * blue_gun c
guns c = omega arith

pub white_alone : (c : ℕ) → (grey_of c ≡ 255) ↔ (bits 11 0 c ≡ 0xFFF)
white_alone c = (λ e. guns c ∙ all_on e, λ e. grey_of_guns c ∙ ap grey_of e)
  where
    all_on : grey_of c ≡ 255 → red_gun c + 16 * green_gun c + 256 * blue_gun c ≡ 0xFFF
    all_on e = omega arith

-- Of equal guns it is 17 times what each has.
pub equal_guns : (c : ℕ) → green_gun c ≡ red_gun c → blue_gun c ≡ red_gun c → grey_of c ≡ 17 * red_gun c
equal_guns c green blue = omega arith
