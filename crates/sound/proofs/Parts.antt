-- Sound played in parts: how many values, a list after another, and a call that has room.
use Rattle.std.proofs.Common.{◌≡◌, ℕ, suc, ◌*◌, ◌^◌, ◌<◌, ◌≤◌, List, [], ◌∷◌, ◌++◌, length, refl, ap, arith, le-ltb}
use Rattle.buffers.specs.Words.{bytes_of}
use Rattle.buffers.proofs.Words.{length_bytes, bytes_append}
use Rattle.refusals.specs.Table.{given}
use Rattle.registers.specs.Sound.{sound_told}
use Rattle.registers.specs.declared.record.Registers.{Registers}
use Rattle.sound.specs.Sixths.{left_at, right_at}
use Rattle.sound.specs.Values.{counter_after, values_of}
use Rattle.sound.specs.Play.{play_told, played_of}
use Rattle.sound.proofs.Accepted.{play_rows}
use Rattle.sound.proofs.Places.{length_values}

module _ (left right : ℕ → ℕ) where
  values_append : (c : ℕ) (xs ys : List ℕ) → c < 2 ^ 32
      → values_of left right c (xs ++ ys) ≡ values_of left right c xs ++ values_of left right (counter_after c (length xs)) ys
  unfolding values_of
  values_append c [] ys h = ap (λ (n : ℕ). values_of left right n ys) (let q : c ≡ counter_after c 0 = omega arith in q)
  values_append c (x ∷ xs) ys h =
      let q : counter_after (counter_after c 1) (length xs) ≡ counter_after c (suc (length xs)) = omega arith in
      rw (values_append (counter_after c 1) xs ys (omega arith), q)

module _ (g : Registers) where
  -- eight values for each word
  pub length_played : (c : ℕ) (words : List ℕ) → length (played_of g c words) ≡ 8 * length words
  unfolding played_of
  length_played c words = omega (arith, length_values (left_at g) (right_at g) c (bytes_of words), length_bytes words)

  pub played_none : (c : ℕ) → played_of g c [] ≡ []
  unfolding played_of bytes_of values_of
  played_none c = refl

  -- words after others: the counter goes on
  pub played_append : (c : ℕ) (xs ys : List ℕ) → c < 2 ^ 32
      → played_of g c (xs ++ ys) ≡ played_of g c xs ++ played_of g (counter_after c (4 * length xs)) ys
  unfolding played_of
  played_append c xs ys h =
      rw (bytes_append xs ys, values_append (left_at g) (right_at g) c (bytes_of xs) (bytes_of ys) h, length_bytes xs)

  -- a record that sound accepts, and room for all
  pub playing : (words places : ℕ) → sound_told g ≡ given tt → 8 * words ≤ places → play_told g words places ≡ given tt
  playing words places e h = rw (play_rows g words places, e, le-ltb places (8 * words) h)
