-- Laws of the samples' bytes: which they are, how many, and one value more.
use Prim.Native.Nat.{ℕ, suc, ◌+◌, ◌*◌, ◌-◌, ◌/◌, ◌%◌, ◌<◌, ◌≤◌}
use mathlib.Core.Path.{◌≡◌, refl}
use mathlib.Core.List.{List, [], ◌∷◌, ◌++◌}
use native.Mathlib.Numerals.{add-one}
use native.Mathlib.Omega.{arith}
use lib.ListN.{length, get_or, drop, drop_of_length-le}
use lib.Seq.{sets, drop-cons}
use lib.IntN.{ℤ, pos, negsuc}
use mir.Syntax.{w16}
use mir.Val.{SFits}
use Rattle.std.specs.Int.{to_le_bytes, cast_unsigned}
use Rattle.waves.specs.Samples.{samples_of}

-- the machine's two bytes of a value
pub bytes_of_value : (z : ℤ) → SFits w16 z → to_le_bytes w16 (cast_unsigned w16 z) ≡ samples_of (z ∷ [])
unfolding samples_of
bytes_of_value (pos n) f =
    let most : n < 32768 = f.sfits in
    let high : n / 256 % 256 ≡ n / 256 = omega arith in
    rw high
bytes_of_value (negsuc n) f =
    let most : n < 32768 = f.sfits in
    let same : 65536 - suc n ≡ 65535 - n = omega arith in
    let high : (65535 - n) / 256 % 256 ≡ (65535 - n) / 256 = omega arith in
    rw (same, high)

pub length_samples : (values : List ℤ) → length (samples_of values) ≡ 2 * length values
unfolding samples_of
length_samples [] = refl
length_samples (v ∷ values) = omega (arith, length_samples values)

pub samples_append : (xs ys : List ℤ) → samples_of (xs ++ ys) ≡ samples_of xs ++ samples_of ys
unfolding samples_of
samples_append [] ys = refl
samples_append (x ∷ xs) ys = rw (samples_append xs ys)

-- one value stored
pub samples_turn :
    (l m : List ℕ) (values : List ℤ) (k : ℕ) → k < length values → m ≡ sets l (2 * k) (samples_of (get_or values k (pos 0) ∷ []))
    → sets l (2 * k) (samples_of (drop k values)) ≡ sets m (2 * (k + 1)) (samples_of (drop (k + 1) values))
unfolding samples_of
samples_turn l m values k h e =
    let q : 2 * (k + 1) ≡ suc (suc (2 * k)) = omega arith in
    rw (e, q, add-one, drop-cons values k (pos 0))

pub samples_done : (l : List ℕ) (values : List ℤ) (i k : ℕ) → length values ≤ k → sets l i (samples_of (drop k values)) ≡ l
unfolding samples_of
samples_done l values i k h = rw (drop_of_length-le values h)

pub samples_none : samples_of [] ≡ []
unfolding samples_of
samples_none = refl
