-- Entries that differ in no shown bit: what they have in common at each depth.
use Prim.Native.Nat.{ℕ, zero, suc, ◌+◌, ◌*◌, ◌/◌, ◌%◌, ◌^◌, ◌<◌}
use mathlib.Core.Path.{◌≡◌, refl, sym, ◌∙◌, ap}
use mathlib.Core.Bool.{Bool, true, false, ◌&&◌, not}
use mathlib.Core.Logic.{◌⊎◌, inl, inr}
use native.Mathlib.Nat.{mod-lt, div-one}
use native.Mathlib.Omega.{arith}
use lib.Arith.{digits_div, digits_mod}
use lib.Dec.{eqb}
use lib.Pow.{shr-shr, shr_lt, mod-pow-add}
use borrow.Author.Tests.{not-false, eqb-true, eqb-false, eq-eqb, lt-ltb}
use Rattle.buffers.proofs.Split.{lt_or_le, true_or_false}
use Rattle.buffers.proofs.Tests.{or_neither}
use Rattle.colours.specs.Colour.{mixed}
use Rattle.claims.specs.Shown.{is_shown, bit_of, any_below, differ}

pub by_cases : (p q : ℕ) → (p ≡ q) ⊎ (p ≡ q → ⊥)
by_cases p q = elim (true_or_false (eqb p q)) [ inl e ↦ inl (eqb-true p q e) | inr e ↦ inr (eqb-false p q e) ]

-- A test that holds of no number below n.
any_false : (test : ℕ → Bool) (n b : ℕ) → any_below test n ≡ false → b < n → test b ≡ false
unfolding any_below
any_false test zero b e h = absurd (omega arith)
any_false test (suc n) b e h =
    elim (lt_or_le b n) [
      | inl l ↦ any_false test n b (or_neither (test n) (any_below test n) e).1 l
      | inr l ↦
          let q : b ≡ n = omega arith in
          rw q (or_neither (test n) (any_below test n) e).0
    ]

false_any : (test : ℕ → Bool) (n : ℕ) → ((b : ℕ) → b < n → test b ≡ false) → any_below test n ≡ false
unfolding any_below
false_any test zero h = refl
false_any test (suc n) h = rw (h n (omega arith)) (false_any test n (λ b l. h b (omega arith)))

-- Numbers with the same bits are the same.
same_bits : (n c e : ℕ) → c < 2 ^ n → e < 2 ^ n → ((b : ℕ) → b < n → bit_of c b ≡ bit_of e b) → c ≡ e
same_bits zero c e p q h = omega arith
same_bits (suc n) c e p q h =
    let s : suc n ≡ n + 1 = omega arith in
    let half : c / 2 ≡ e / 2 = same_bits n (c / 2) (e / 2) (shr_lt n 1 (rw s at p)) (shr_lt n 1 (rw s at q)) (λ b l. next b l) in
    let low : c / 1 % 2 ≡ e / 1 % 2 = h 0 (omega arith) in
    omega arith
  where
    next : (b : ℕ) → b < n → bit_of (c / 2) b ≡ bit_of (e / 2) b
    next b l =
        let k : 1 + b ≡ suc b = omega arith in
        rw (shr-shr c 1 b, shr-shr e 1 b, k) (h (suc b) (omega arith))

-- Entries that differ in no shown bit have each shown bit in common.
shown_bit : (d c e b : ℕ) → differ d c e ≡ false → b < 13 → is_shown d b ≡ true → bit_of c b ≡ bit_of e b
unfolding differ
shown_bit d c e b f h s =
    let t : is_shown d b && not (eqb (bit_of c b) (bit_of e b)) ≡ false = any_false _ 13 b f h in
    eqb-true _ _ (not-false _ (rw s at t))

pub differ_self : (d c : ℕ) → differ d c c ≡ false
unfolding differ
differ_self d c = false_any _ 13 (λ b h. rw (eq-eqb (bit_of c b) (bit_of c b) refl) (go (is_shown d b)))
  where
    go : (t : Bool) → t && false ≡ false
    go true = refl
    go false = refl

-- Depth 1, 2, 4: all 13 bits.
pub same_entry : (d c e : ℕ) → eqb d 8 ≡ false → c < 2 ^ 13 → e < 2 ^ 13 → differ d c e ≡ false → c ≡ e
same_entry d c e f p q h = same_bits 13 c e p q (λ b l. shown_bit d c e b h l (rw f (lt-ltb b 13 l)))

-- A number's low bits, one by one.
two_bits : (x : ℕ) → x % 4 ≡ x % 2 + x / 2 % 2 * 2
two_bits x = omega arith

three_bits : (x : ℕ) → x % 8 ≡ x % 2 + x / 2 % 2 * 2 + x / 4 % 2 * 4
three_bits x =
    let top : x % 8 ≡ x / 4 % 2 * 4 + x % 4 = mod-pow-add x 1 2 in
    omega (arith, two_bits x)

four_bits : (x : ℕ) → x % 16 ≡ x % 8 + x / 8 % 2 * 8
four_bits x =
    let top : x % 16 ≡ x / 8 % 2 * 8 + x % 8 = mod-pow-add x 1 3 in
    omega arith

module _ (c e : ℕ) where
  blues : c / 1024 % 2 ≡ e / 1024 % 2 → c / 512 % 2 ≡ e / 512 % 2 → c / 256 % 2 ≡ e / 256 % 2 → c / 256 % 8 ≡ e / 256 % 8
  blues x y z =
      let c4 : c / 256 / 4 ≡ c / 1024 = omega arith in
      let e4 : e / 256 / 4 ≡ e / 1024 = omega arith in
      let c2 : c / 256 / 2 ≡ c / 512 = omega arith in
      let e2 : e / 256 / 2 ≡ e / 512 = omega arith in
      rw (three_bits (c / 256), three_bits (e / 256), c4, e4, c2, e2, x, y, z)

  greens : c / 32 % 2 ≡ e / 32 % 2 → c / 16 % 2 ≡ e / 16 % 2 → c / 16 % 4 ≡ e / 16 % 4
  greens x y =
      let c2 : c / 16 / 2 ≡ c / 32 = omega arith in
      let e2 : e / 16 / 2 ≡ e / 32 = omega arith in
      rw (two_bits (c / 16), two_bits (e / 16), c2, e2, x, y)

  reds : c / 4 % 2 ≡ e / 4 % 2 → c / 2 % 2 ≡ e / 2 % 2 → c / 1 % 2 ≡ e / 1 % 2 → c % 8 ≡ e % 8
  reds x y z =
      let w : c % 2 ≡ e % 2 = omega (arith, z) in
      rw (three_bits c, three_bits e, x, y, w)

-- Depth 8: with the pixel's high nibble the same, the colour is the same,
pub same_mixed : (c e p q : ℕ) → differ 8 c e ≡ false → p / 16 ≡ q / 16 → mixed c p ≡ mixed e q
same_mixed c e p q h n =
    let bit : (b : ℕ) → b < 13 → is_shown 8 b ≡ true → bit_of c b ≡ bit_of e b = λ b. shown_bit 8 c e b h in
    let blue : c / 256 % 8 ≡ e / 256 % 8 = blues c e (bit 10 (omega arith) refl) (bit 9 (omega arith) refl) (bit 8 (omega arith) refl) in
    let green : c / 16 % 4 ≡ e / 16 % 4 = greens c e (bit 5 (omega arith) refl) (bit 4 (omega arith) refl) in
    let red : c % 8 ≡ e % 8 = reds c e (bit 2 (omega arith) refl) (bit 1 (omega arith) refl) (bit 0 (omega arith) refl) in
    let supremacy : c / 4096 % 2 ≡ e / 4096 % 2 = bit 12 (omega arith) refl in
    rw (supremacy, blue, green, red, high p 3, high q 3, high p 2, high q 2, high p 1, high q 1, n)
  where
    high : (p k : ℕ) → p / 2 ^ (4 + k) ≡ p / 16 / 2 ^ k
    high p k = sym (shr-shr p 4 k)

-- and only then: the colour tells the entry's shown bits and the pixel's high nibble.
pub record MixedTold (c e p q : ℕ) : Type 0 where
  pub entries : differ 8 c e ≡ false
  pub nibbles : p / 16 % 16 ≡ q / 16 % 16

-- Digits of a number, the low one last.
peel : (m q r x y : ℕ) → x < m → y < m → q * m + x ≡ r * m + y → (q ≡ r) × (x ≡ y)
peel m q r x y hx hy e =
    (sym (digits_div q hx) ∙ ap (λ (n : ℕ). n / m) e ∙ digits_div r hy, sym (digits_mod q hx) ∙ ap (λ (n : ℕ). n % m) e ∙ digits_mod r hy)

-- A mixed colour by its digits.
abbrev stacked : ℕ → ℕ → ℕ
stacked e p =
    ((((((e / 4096 % 2 * 2 + p / 128 % 2) * 8 + e / 256 % 8) * 2 + p / 64 % 2) * 2 + p / 32 % 2) * 4 + e / 16 % 4) * 2 + p / 16 % 2) * 8 + e % 8

mixed_stacked : (e p : ℕ) → mixed e p ≡ stacked e p
mixed_stacked e p = go (e / 4096 % 2) (p / 128 % 2) (e / 256 % 8) (p / 64 % 2) (p / 32 % 2) (e / 16 % 4) (p / 16 % 2) (e % 8)
  where
    go : (a b c d f h i j : ℕ) → a * 4096 + b * 2048 + c * 256 + d * 128 + f * 64 + h * 16 + i * 8 + j
        ≡ ((((((a * 2 + b) * 8 + c) * 2 + d) * 2 + f) * 4 + h) * 2 + i) * 8 + j
    go a b c d f h i j = omega arith

below : (n m : ℕ) → 0 < m → n % m < m
below n m h = mod-lt n h

nibble : (p q : ℕ) → p / 128 % 2 ≡ q / 128 % 2 → p / 64 % 2 ≡ q / 64 % 2 → p / 32 % 2 ≡ q / 32 % 2 → p / 16 % 2 ≡ q / 16 % 2 → p / 16 % 16 ≡ q / 16 % 16
nibble p q a b c d =
    let p8 : p / 16 / 8 ≡ p / 128 = omega arith in
    let q8 : q / 16 / 8 ≡ q / 128 = omega arith in
    let p4 : p / 16 / 4 ≡ p / 64 = omega arith in
    let q4 : q / 16 / 4 ≡ q / 64 = omega arith in
    let p2 : p / 16 / 2 ≡ p / 32 = omega arith in
    let q2 : q / 16 / 2 ≡ q / 32 = omega arith in
    rw (four_bits (p / 16), four_bits (q / 16), three_bits (p / 16), three_bits (q / 16), p8, q8, p4, q4, p2, q2, a, b, c, d)

-- The shown bits, from the parts of the colour.
bit_two : (x : ℕ) → x / 4 % 2 ≡ x % 8 / 4
bit_two x = omega arith

bit_one : (x : ℕ) → x / 2 % 2 ≡ x % 8 / 2 % 2
bit_one x = omega arith

bit_none : (x : ℕ) → x % 2 ≡ x % 8 % 2
bit_none x = omega arith

bit_upper : (x : ℕ) → x / 2 % 2 ≡ x % 4 / 2
bit_upper x = omega arith

bit_lower : (x : ℕ) → x % 2 ≡ x % 4 % 2
bit_lower x = omega arith

deeper : (c k : ℕ) (b : ℕ) → c / 2 ^ k / 2 ^ b ≡ c / 2 ^ (k + b)
deeper c k b = shr-shr c k b

shown_same : (c e : ℕ) → c / 4096 % 2 ≡ e / 4096 % 2 → c / 256 % 8 ≡ e / 256 % 8 → c / 16 % 4 ≡ e / 16 % 4 → c % 8 ≡ e % 8 → differ 8 c e ≡ false
unfolding differ any_below
shown_same c e s b g r =
    let b10 : c / 1024 % 2 ≡ e / 1024 % 2 = rw (← deeper c 8 2, ← deeper e 8 2, bit_two (c / 256), bit_two (e / 256), b) in
    let b9 : c / 512 % 2 ≡ e / 512 % 2 = rw (← deeper c 8 1, ← deeper e 8 1, bit_one (c / 256), bit_one (e / 256), b) in
    let b8 : c / 256 % 2 ≡ e / 256 % 2 = rw (bit_none (c / 256), bit_none (e / 256), b) in
    let b5 : c / 32 % 2 ≡ e / 32 % 2 = rw (← deeper c 4 1, ← deeper e 4 1, bit_upper (c / 16), bit_upper (e / 16), g) in
    let b4 : c / 16 % 2 ≡ e / 16 % 2 = rw (bit_lower (c / 16), bit_lower (e / 16), g) in
    let b2 : c / 4 % 2 ≡ e / 4 % 2 = rw (bit_two c, bit_two e, r) in
    let b1 : c / 2 % 2 ≡ e / 2 % 2 = rw (bit_one c, bit_one e, r) in
    let b0 : c / 1 % 2 ≡ e / 1 % 2 = rw (div-one c, div-one e, bit_none c, bit_none e, r) in
    rw (
      eq-eqb (c / 4096 % 2) (e / 4096 % 2) s,
      eq-eqb (c / 1024 % 2) (e / 1024 % 2) b10,
      eq-eqb (c / 512 % 2) (e / 512 % 2) b9,
      eq-eqb (c / 256 % 2) (e / 256 % 2) b8,
      eq-eqb (c / 32 % 2) (e / 32 % 2) b5,
      eq-eqb (c / 16 % 2) (e / 16 % 2) b4,
      eq-eqb (c / 4 % 2) (e / 4 % 2) b2,
      eq-eqb (c / 2 % 2) (e / 2 % 2) b1,
      eq-eqb (c / 1 % 2) (e / 1 % 2) b0,
    )

pub mixed_told : (c e p q : ℕ) → mixed c p ≡ mixed e q → MixedTold c e p q
mixed_told c e p q h =
    let red = peel 8 _ _ (c % 8) (e % 8) (below c 8 (omega arith)) (below e 8 (omega arith)) (sym (mixed_stacked c p) ∙ h ∙ mixed_stacked e q) in
    let four = peel 2 _ _ (p / 16 % 2) (q / 16 % 2) (below _ 2 (omega arith)) (below _ 2 (omega arith)) red.0 in
    let green = peel 4 _ _ (c / 16 % 4) (e / 16 % 4) (below _ 4 (omega arith)) (below _ 4 (omega arith)) four.0 in
    let five = peel 2 _ _ (p / 32 % 2) (q / 32 % 2) (below _ 2 (omega arith)) (below _ 2 (omega arith)) green.0 in
    let six = peel 2 _ _ (p / 64 % 2) (q / 64 % 2) (below _ 2 (omega arith)) (below _ 2 (omega arith)) five.0 in
    let blue = peel 8 _ _ (c / 256 % 8) (e / 256 % 8) (below _ 8 (omega arith)) (below _ 8 (omega arith)) six.0 in
    let seven = peel 2 _ _ (p / 128 % 2) (q / 128 % 2) (below _ 2 (omega arith)) (below _ 2 (omega arith)) blue.0 in
    record {
      entries = shown_same c e seven.0 blue.1 green.1 red.1;
      nibbles = nibble p q seven.1 six.1 five.1 four.1;
    }
