-- A record made of two lists; and what two lists tell, by their lengths, of themselves and of a call of their record.
use Prim.Native.Nat.{ℕ, ◌≤◌, ◌<◌}
use mathlib.Core.Bool.{Bool, true, false, cond}
use mathlib.Core.Path.{◌≡◌, refl, sym, ◌∙◌, ap}
use mathlib.Core.List.{List, [], ◌∷◌, map}
use native.Mathlib.Omega.{arith}
use lib.ListN.{length, get_or, take}
use lib.Seq.{get_or-take}
use mir.Val.{bool_byte}
use Rattle.std.proofs.Common.{below_more, set, ◌+◌}
use Rattle.std.proofs.lemmas.Bool.Decides.{nat_tests}
use Rattle.std.proofs.lemmas.List.{get_or-set_same, get_or-set_other, ext_get_or, get_or-map, length-map, length-take-le}
use Rattle.refusals.specs.Table.{why, Told, given, refused, row, judged, and_then}
use Rattle.registers.specs.Record.{registers_by}
use Rattle.registers.specs.declared.record.Registers.{Registers}
use Rattle.refusals.proofs.Tables.{never}
use Rattle.vombelishi.specs.Record.{is_set, record_of, lacking, record_told}

-- One flag more.
pub flag_more : (fs : List Bool) (bs : List ℕ) (k : ℕ) → k < length fs → ((i : ℕ) → i < k → get_or fs i false ≡ is_set (get_or bs i 0))
    → (i : ℕ) → i < k + 1 → get_or (set fs k (is_set (get_or bs k 0))) i false ≡ is_set (get_or bs i 0)
flag_more fs bs k h so_far =
    below_more (λ i. get_or (set fs k (is_set (get_or bs k 0))) i false ≡ is_set (get_or bs i 0)) k
    (λ i b. get_or-set_other fs k i _ false (λ e. omega (arith, e, b)) ∙ so_far i b) (get_or-set_same fs k _ false h)

module _ (values written : List ℕ) where
  -- the first 64 of each list
  pub record_made : (fs : List Bool) → length fs ≡ 64 → 64 ≤ length written → ((k : ℕ) → k < 64 → get_or fs k false ≡ is_set (get_or written k 0))
      → registers_by (take 64 values) fs ≡ record_of values written
  unfolding record_of
  record_made fs long h each =
      let bs = take 64 written in
      let n : length bs ≡ 64 = length-take-le 64 written h in
      let flags : fs ≡ map is_set bs =
      ext_get_or false fs (map is_set bs) (omega (arith, length-map bs is_set))
      (λ k b. each k (omega arith) ∙ sym (get_or-map is_set bs k 0 false (omega arith) ∙ ap is_set (get_or-take 64 written k 0 (omega arith)))) in
      rw flags

  -- a record that is told is theirs
  pub record_is : (g : Registers) → given g ≡ record_told values written → record_of values written ≡ g
  unfolding record_told
  record_is g e = go (lacking values written) e
    where
      go : (b : Bool) → given g ≡ judged (row 13 b 0 ∷ []) (record_of values written) → record_of values written ≡ g
      go true h = never h
      go false h = cc

  -- slices that are no record are refused
  pub no_record : lacking values written ≡ true → record_told values written ≡ refused (why 13 0)
  unfolding record_told
  no_record e = rw e

  -- and others are their record: long enough to be one
  pub a_record : lacking values written ≡ false → record_told values written ≡ given (record_of values written)
  unfolding record_told
  a_record e = rw e

  pub long_enough : lacking values written ≡ false → (64 ≤ length values) × (64 ≤ length written)
  long_enough e = (grind (arith, nat_tests), grind (arith, nat_tests))

  -- A call of a record: what it tells where there is one, and where there is none.
  module _ {A : Type 0} (call : Registers → Told A) where
    pub not_short : (a : A) → and_then (record_told values written) call ≡ given a → (64 ≤ length values) × (64 ≤ length written)
    unfolding record_told
    not_short a e = go (lacking values written) refl e
      where
        go : (b : Bool) → lacking values written ≡ b → and_then (judged (row 13 b 0 ∷ []) (record_of values written)) call ≡ given a
            → (64 ≤ length values) × (64 ≤ length written)
        go true l h = never (sym h)
        go false l h = long_enough l

    pub told_short : lacking values written ≡ true → refused (why 13 0) ≡ and_then (record_told values written) call
    told_short e = sym (ap (λ (t : Told Registers). and_then t call) (no_record e))

    pub told_by : (g : Registers) (t : Told A) → lacking values written ≡ false → g ≡ record_of values written → t ≡ call g
        → t ≡ and_then (record_told values written) call
    told_by g t e q p = p ∙ (ap call q ∙ sym (ap (λ (t : Told Registers). and_then t call) (a_record e)))

-- A flag as a byte.
pub flag_byte : (b : Bool) → bool_byte b ≡ cond b 1 0
flag_byte true = refl
flag_byte false = refl
