-- What stands at every place of the lent memory after the sound call, from its promises.
use Rattle.std.proofs.Common.{◌≡◌, ℕ, zero, suc, ◌+◌, ◌*◌, ◌/◌, ◌%◌, ◌^◌, ◌<◌, ◌≤◌, Bool, true, false, eqb, List, [], ◌∷◌, length, get_or, ℤ, pos}
use Rattle.std.proofs.Common.{nat_abs, sym, refl, ap, ◌∙◌, subst, arith, eqb-true}
use lib.Seq.{sets, length-sets}
use borrow.Author.Tests.{eqb-false}
use borrow.Fn.Kinds.{Dens, res_t, ended_of}
use contract.Lifetimes.{Lfts}
use denote.Triple.Clauses.{AtExit}
use Rattle.buffers.specs.Words.{bytes_of, byte_of}
use Rattle.buffers.proofs.Words.{length_bytes, bytes_at}
use Rattle.buffers.proofs.Sets.{sets_at, sets_beyond}
use Rattle.refusals.specs.Table.{Told, given, unless_refused}
use Rattle.refusals.specs.Refusals.{says}
use Rattle.registers.specs.declared.record.Registers.{Registers}
use Rattle.sound.specs.Amplitude.{value_of}
use Rattle.sound.specs.Sixths.{left_of, right_of, left_at, right_at}
use Rattle.sound.specs.Values.{channel_of, counter_after, values_of}
use Rattle.sound.specs.Play.{play_told, played_of}
use Rattle.sound.specs.Pair.{sides_of}
use Rattle.sound.specs.Places.{EveryPlace}
use Rattle.sound.proofs.Signed.{value_range}
use Rattle.registers.proofs.Heard.{stereo_positive}
use Rattle.sound.proofs.Accepted.{played}
use Rattle.sound.proofs.play.Kinds as play_kinds
use Rattle.sound.proofs.play.Reads as play_reads

module _ (left right : ℕ → ℕ) where
  pub length_values : (counter : ℕ) (bytes : List ℕ) → length (values_of left right counter bytes) ≡ 2 * length bytes
  unfolding values_of
  length_values counter [] = refl
  length_values counter (byte ∷ bytes) = omega (arith, length_values (counter_after counter 1) bytes)

  -- the counter before byte k says its channel, also past 4,294,967,295
  later : (counter k : ℕ) → channel_of (counter_after (counter_after counter 1) k) ≡ channel_of (counter_after counter (suc k))
  later counter k = omega arith

  first : (counter : ℕ) → channel_of counter ≡ channel_of (counter_after counter 0)
  first counter = omega arith

  pub left_value :
      (counter : ℕ) (bytes : List ℕ) (k : ℕ) → k < length bytes
      → get_or (values_of left right counter bytes) (2 * k) (pos 0) ≡ value_of (get_or bytes k 0) (left (channel_of (counter_after counter k)))
  unfolding values_of
  left_value counter [] k h = absurd (omega arith)
  left_value counter (byte ∷ bytes) zero h = rw (← first counter)
  left_value counter (byte ∷ bytes) (suc k) h =
      let n : 2 * suc k ≡ suc (suc (2 * k)) = omega arith in
      rw (n, ← later counter k) (left_value (counter_after counter 1) bytes k (omega arith))

  pub right_value :
      (counter : ℕ) (bytes : List ℕ) (k : ℕ) → k < length bytes
      → get_or (values_of left right counter bytes) (2 * k + 1) (pos 0) ≡ value_of (get_or bytes k 0) (right (channel_of (counter_after counter k)))
  unfolding values_of
  right_value counter [] k h = absurd (omega arith)
  right_value counter (byte ∷ bytes) zero h = rw (← first counter)
  right_value counter (byte ∷ bytes) (suc k) h =
      let n : 2 * suc k + 1 ≡ suc (suc (2 * k + 1)) = omega arith in
      rw (n, ← later counter k) (right_value (counter_after counter 1) bytes k (omega arith))

module _ (g : Registers) (words : List ℕ) (counter : ℕ) (out : List ℤ) (told_given : play_told g (length words) (length out) ≡ given tt) where
  abbrev values : List ℤ
  values = values_of (left_at g) (right_at g) counter (bytes_of words)

  long_enough : length values ≤ length out
  long_enough =
      omega (arith, length_values (left_at g) (right_at g) counter (bytes_of words), length_bytes words, (played g (length words) (length out) told_given).1)

  length_is : length values ≡ 8 * length words
  length_is = omega (arith, length_values (left_at g) (right_at g) counter (bytes_of words), length_bytes words)

  on_left :
      (k : ℕ) → k < 4 * length words
      → get_or (sets out 0 values) (2 * k) (pos 0) ≡ value_of (byte_of words k) (left_at g (channel_of (counter_after counter k)))
  on_left k h =
      sets_at out values (2 * k) (pos 0) long_enough (omega (arith, length_is))
      ∙ left_value (left_at g) (right_at g) counter (bytes_of words) k (omega (arith, length_bytes words))
      ∙ ap (λ (b : ℕ). value_of b (left_at g (channel_of (counter_after counter k)))) (bytes_at words k h)

  on_right :
      (k : ℕ) → k < 4 * length words
      → get_or (sets out 0 values) (2 * k + 1) (pos 0) ≡ value_of (byte_of words k) (right_at g (channel_of (counter_after counter k)))
  on_right k h =
      sets_at out values (2 * k + 1) (pos 0) long_enough (omega (arith, length_is))
      ∙ right_value (left_at g) (right_at g) counter (bytes_of words) k (omega (arith, length_bytes words))
      ∙ ap (λ (b : ℕ). value_of b (right_at g (channel_of (counter_after counter k)))) (bytes_at words k h)

  in_sixths : (k : ℕ) → (left_at g k ≤ 6) × (right_at g k ≤ 6)
  in_sixths k = (omega (arith, stereo_positive g k (played g (length words) (length out) told_given).0), omega arith)

  -- place i is the left or the right value of byte i / 2
  bounded : (i : ℕ) → i < 8 * length words → nat_abs (get_or (sets out 0 values) i (pos 0)) ≤ 23712
  bounded i h = go (eqb (i % 2) 0) refl
    where
      go : (t : Bool) → eqb (i % 2) 0 ≡ t → nat_abs (get_or (sets out 0 values) i (pos 0)) ≤ 23712
      go true e =
          let even = eqb-true (i % 2) 0 e in
          let n : i ≡ 2 * (i / 2) = omega arith in
          rw n (rw (on_left (i / 2) (omega arith)) (value_range (byte_of words (i / 2)) _ (omega arith) (in_sixths _).0))
      go false e =
          let odd = eqb-false (i % 2) 0 e in
          let n : i ≡ 2 * (i / 2) + 1 = omega (arith, odd) in
          rw n (rw (on_right (i / 2) (omega arith)) (value_range (byte_of words (i / 2)) _ (omega arith) (in_sixths _).1))

  places : EveryPlace g words counter out (sets out 0 values)
  places =
      record {
        left_place = on_left;
        right_place = on_right;
        within = bounded;
        beyond = λ i h. sets_beyond out values i (pos 0) long_enough (omega (arith, length_is));
        long = length-sets out 0 values;
      }

-- One byte's pair, for every byte and stereo value: right is the rest of six sixths, and both are within the bound.
pub pair_within :
    (byte stereo : ℕ) → byte < 256 → 1 ≤ stereo → stereo ≤ 7
    → (left_of stereo + right_of stereo ≡ 6) × (nat_abs (sides_of byte stereo).left ≤ 23712) × (nat_abs (sides_of byte stereo).right ≤ 23712)
pair_within byte stereo b lo hi = (omega arith, value_range byte (left_of stereo) b (omega arith), value_range byte (right_of stereo) b (omega arith))

-- Of the sound call's own promises: the counter afterwards, and every place.
pub every_place :
    (κs : Lfts 3) (a : Dens κs play_kinds.ps) (x : (res_t play_kinds.r κs).Denot) (s : AtExit (ended_of 3 play_kinds.ps play_kinds.r) κs)
    → play_reads.Post κs a x s → says x ≡ given tt
    → (s.1.1.0.now ≡ (a.1.1.0.now + 4 * length a.1.0.now) % 2 ^ 32)
    × EveryPlace a.0 a.1.0.now a.1.1.0.now a.1.1.1.0.now s.1.1.1.0.now
unfolding played_of
every_place κs a x s p e =
    let g = a.0 in
    let words = a.1.0.now in
    let counter = a.1.1.0.now in
    let out = a.1.1.1.0.now in
    let t : play_told g (length words) (length out) ≡ given tt = sym p.0 ∙ e in (
      p.1.0 ∙ ap (λ (u : Told (Unit {0})). unless_refused u counter (counter_after counter (4 * length words))) t,
      subst (EveryPlace g words counter out)
          (sym (p.1.1 ∙ ap (λ (u : Told (Unit {0})). unless_refused u out (sets out 0 (played_of g counter words))) t))
          (places g words counter out t),
    )
