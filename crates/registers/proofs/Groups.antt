-- Laws of the lowest slot of a group: from one address to another, one slot alone, and two groups together.
use Prim.Native.Nat.{ℕ, zero, suc, ◌+◌, ◌-◌, ◌/◌, ◌<◌, ◌≤◌, min}
use mathlib.Core.Path.{◌≡◌, refl, sym, ◌∙◌, ap}
use mathlib.Core.Bool.{Bool, true, false, ◌&&◌, ◌||◌}
use native.Mathlib.Nat.{sub-zero}
use native.Mathlib.Omega.{arith}
use lib.Dec.{eqb}
use borrow.Author.Tests.{lt-leb, le-leb, ltb-false, eqb-true, eq-eqb, ne_eqb}
use mathlib.Core.Logic.{◌⊎◌, inl, inr}
use Rattle.std.specs.Prelude.{Option, Some, None, MatchOption}
use Rattle.std.specs.Option.{option_or}
use Rattle.buffers.specs.Pick.{pick}
use Rattle.buffers.proofs.Split.{lt_or_le}
use Rattle.buffers.proofs.Tests.{no}
use Rattle.registers.specs.Lowest.{lowest, lowest_slot}
use Rattle.registers.specs.Needed.{among}
use Rattle.registers.proofs.First.{lowest_here, lowest_more, lowest_most, lowest_passes, slot_given, none_given, slot_is, slot_is_none}

pub and_false : (b : Bool) → b && false ≡ false
and_false true = refl
and_false false = refl

-- A test that fails adds nothing.
pub or_false : (b : Bool) → b || false ≡ b
or_false true = refl
or_false false = refl

pub or_and : (a b c : Bool) → (a || b) && c ≡ (a && c) || (b && c)
or_and true true true = refl
or_and true true false = refl
or_and true false true = refl
or_and true false false = refl
or_and false b c = refl

-- two tests that agree have the same lowest slot
pub lowest_same : (test other : ℕ → Bool) → ((j : ℕ) → test j ≡ other j) → (n k : ℕ) → lowest test n k ≡ lowest other n k
unfolding lowest
lowest_same test other e zero k = refl
lowest_same test other e (suc n) k = rw (e k, lowest_same test other e n (suc k))

pub slot_same : (test other : ℕ → Bool) → ((j : ℕ) → test j ≡ other j) → lowest_slot test ≡ lowest_slot other
slot_same test other e = rw (lowest_same test other e 64 0)

module _ (test : ℕ → Bool) where
  -- slots that fail are passed over
  pub lowest_skip : (n k : ℕ) → k ≤ n → ((j : ℕ) → j < k → test j ≡ false) → lowest test n 0 ≡ lowest test (n - k) k
  lowest_skip n zero h fails = rw sub-zero
  lowest_skip n (suc k) h fails =
      let one : k + 1 ≡ suc k = omega arith in
      lowest_skip n k (omega arith) (λ j i. fails j (omega arith))
      ∙ rw one at (lowest_more test n k (omega arith) (fails k (omega arith)))

  pub lowest_none : (n k : ℕ) → ((j : ℕ) → k ≤ j → test j ≡ false) → lowest test n k ≡ k + n
  unfolding lowest
  lowest_none zero k fails = omega arith
  lowest_none (suc n) k fails = rw (fails k (omega arith)) (omega (arith, lowest_none n (suc k) (λ j i. fails j (omega arith))))

  pub lowest_least : (n k : ℕ) → k ≤ lowest test n k
  unfolding lowest
  lowest_least zero k = omega arith
  lowest_least (suc n) k = go (test k) (lowest_least n (suc k))
    where
      go : (b : Bool) → suc k ≤ lowest test n (suc k) → k ≤ pick b k (lowest test n (suc k))
      go true h = omega arith
      go false h = omega arith

-- the lowest of two groups
pub lowest_or : (a b : ℕ → Bool) (n k : ℕ) → lowest (λ j. a j || b j) n k ≡ min (lowest a n k) (lowest b n k)
unfolding lowest
lowest_or a b zero k = omega arith
lowest_or a b (suc n) k = go (a k) (b k) (lowest_or a b n (suc k)) (lowest_least a n (suc k)) (lowest_least b n (suc k))
  where
    x : ℕ
    x = lowest a n (suc k)

    y : ℕ
    y = lowest b n (suc k)

    both : ℕ
    both = lowest (λ j. a j || b j) n (suc k)

    go : (s t : Bool) → both ≡ min x y → suc k ≤ x → suc k ≤ y → pick (s || t) k both ≡ min (pick s k x) (pick t k y)
    go true true e p q = omega arith
    go true false e p q = omega arith
    go false true e p q = omega arith
    go false false e p q = e

-- the lowest of two groups of which one lies before a slot and the other from it on: the first's, else the second's
pub slot_or : (a b : ℕ → Bool) (k : ℕ) → ((j : ℕ) → k ≤ j → a j ≡ false) → ((j : ℕ) → j < k → b j ≡ false)
    → lowest_slot (λ j. a j || b j) ≡ option_or (lowest_slot a) (lowest_slot b)
slot_or a b k after before = go (lowest_slot a) refl (lowest_slot b) refl
  where
    x : ℕ
    x = lowest a 64 0

    y : ℕ
    y = lowest b 64 0

    both : lowest (λ j. a j || b j) 64 0 ≡ min x y
    both = lowest_or a b 64 0

    none : (test : ℕ → Bool) → None ≡ lowest_slot test → 64 ≤ lowest test 64 0
    none test e = ltb-false _ _ (none_given test e)

    at_slot : (test : ℕ → Bool) (i : ℕ) → Some i ≡ lowest_slot test → test i ≡ true
    at_slot test i e = let g = slot_given test i e in rw g.0 at (lowest_passes test 64 0 (omega arith))

    first_below : (i : ℕ) → Some i ≡ lowest_slot a → i < k
    first_below i e = go (lt_or_le i k)
      where
        go : (i < k) ⊎ (k ≤ i) → i < k
        go (inl h) = h
        go (inr h) = absurd (no (sym (after i h) ∙ at_slot a i e))

    second_from : (i : ℕ) → Some i ≡ lowest_slot b → k ≤ i
    second_from i e = go (lt_or_le i k)
      where
        go : (i < k) ⊎ (k ≤ i) → k ≤ i
        go (inl h) = absurd (no (sym (before i h) ∙ at_slot b i e))
        go (inr h) = h

    go : (r : Option ℕ) → lowest_slot a ≡ r → (q : Option ℕ) → lowest_slot b ≡ q → lowest_slot (λ j. a j || b j) ≡ option_or r q
    go (Some i) e (Some j) f =
        let g = slot_given a i (sym e) in
        let h = slot_given b j (sym f) in
        let p = first_below i (sym e) in
        let q = second_from j (sym f) in
        slot_is (λ j. a j || b j) i (omega (arith, both)) g.1
    go (Some i) e None f =
        let g = slot_given a i (sym e) in
        let h = none b (sym f) in
        slot_is (λ j. a j || b j) i (omega (arith, both)) g.1
    go None e (Some j) f =
        let g = none a (sym e) in
        let h = slot_given b j (sym f) in
        slot_is (λ j. a j || b j) j (omega (arith, both)) h.1
    go None e None f =
        let g = none a (sym e) in
        let h = none b (sym f) in
        let m = lowest_most a 64 0 in
        slot_is_none (λ j. a j || b j) (omega (arith, both, lowest_most b 64 0))

-- the slots from one address to another that pass a test
module _ (first last : ℕ) (test : ℕ → Bool) where
  abbrev pub group : ℕ → Bool
  group j = among first last j && test j

  pub group_before : (j : ℕ) → j < first / 4 → group j ≡ false
  group_before j h = rw (lt-leb (first / 4) j h)

  pub group_after : (j : ℕ) → last / 4 < j → group j ≡ false
  group_after j h = rw (lt-leb j (last / 4) h, and_false)

  -- the lowest of them, as a search finds it
  pub first_slot : last < 256 → (r : Option ℕ)
      → MatchOption r ((k : ℕ) → first / 4 ≤ k → k < last / 4 + 1 → test k ≡ false)
      (λ i. (first / 4 ≤ i) × (i < last / 4 + 1) × (test i ≡ true) × ((k : ℕ) → first / 4 ≤ k → k < i → test k ≡ false))
      → r ≡ lowest_slot group
  first_slot below None fails = sym (slot_is_none group (lowest_none group 64 0 (λ j i. go j (lt_or_le j (first / 4)) (lt_or_le (last / 4) j))))
    where
      go : (j : ℕ) → (j < first / 4) ⊎ (first / 4 ≤ j) → (last / 4 < j) ⊎ (j ≤ last / 4) → group j ≡ false
      go j (inl h) more = group_before j h
      go j (inr h) (inl l) = group_after j l
      go j (inr h) (inr l) = rw (fails j h (omega arith), and_false)
  first_slot below (Some i) p =
      let skip = lowest_skip group 64 i (omega arith) (λ j h. go j h (lt_or_le j (first / 4))) in
      sym (slot_is group i (skip ∙ lowest_here group 64 i (omega arith) here) (omega arith))
    where
      here : group i ≡ true
      here = let h : i ≤ last / 4 = omega arith in rw (le-leb (first / 4) i p.0, le-leb i (last / 4) h, p.2)

      go : (j : ℕ) → j < i → (j < first / 4) ⊎ (first / 4 ≤ j) → group j ≡ false
      go j h (inl l) = group_before j l
      go j h (inr l) = rw (p.3 j l h, and_false)

-- one slot alone
pub slot_alone : (test : ℕ → Bool) (k : ℕ) → k < 64 → lowest_slot (λ j. eqb j k && test j) ≡ pick (test k) (Some k) None
slot_alone test k h = go (test k) refl
  where
    alone : ℕ → Bool
    alone j = eqb j k && test j

    go : (b : Bool) → test k ≡ b → lowest_slot alone ≡ pick b (Some k) None
    go true e =
        slot_is alone k
        (lowest_skip alone 64 k (omega arith) (λ j i. rw (ne_eqb j k (λ q. omega arith))) ∙ lowest_here alone 64 k h (rw (eq-eqb k k refl, e))) h
    go false e = slot_is_none alone (lowest_none alone 64 0 (λ j i. at_it j (eqb j k) refl))
      where
        at_it : (j : ℕ) (s : Bool) → eqb j k ≡ s → s && test j ≡ false
        at_it j false q = refl
        at_it j true q = ap test (eqb-true j k q) ∙ e
