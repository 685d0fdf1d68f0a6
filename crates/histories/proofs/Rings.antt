-- A ring read word by word: places around its end, and a word put behind the last one held.
use Prim.Native.Nat.{ℕ, zero, suc, ◌+◌, ◌-◌, ◌<◌, ◌≤◌}
use mathlib.Core.List.{List, [], ◌∷◌, ◌++◌}
use mathlib.Core.Logic.{◌≢◌, inl, inr}
use mathlib.Core.Path.{◌≡◌, refl, sym, ◌∙◌, ap}
use native.Mathlib.Omega.{arith}
use borrow.Author.Tests.{lt-ltb, le-ltb}
use lib.ListN.{length, set, get_or}
use lib.Seq.{get_or-set_same, get_or-set_other}
use Rattle.buffers.proofs.Split.{lt_or_le}
use Rattle.queues.specs.Queue.{around}
use Rattle.queues.proofs.Counts.{around_lt}
use Rattle.histories.specs.Opens.{ring_from}

module _ (d : ℕ) where
  around_low : (n : ℕ) → n < d → around d n ≡ n
  around_low n h = rw (lt-ltb n d h)

  around_high : (n : ℕ) → d ≤ n → around d n ≡ n - d
  around_high n h = rw (le-ltb n d h)

  around_next : (p n : ℕ) → p < d → suc n < d → around d (around d (p + 1) + n) ≡ around d (p + suc n)
  around_next p n h k = elim (lt_or_le (p + 1) d) [
    | inl l ↦ let e : p + 1 + n ≡ p + suc n = omega arith in ap (λ m. around d (m + n)) (around_low (p + 1) l) ∙ ap (around d) e
    | inr g ↦
        let e : p + 1 - d + n ≡ p + suc n - d = omega arith in
        ap (λ m. around d (m + n)) (around_high (p + 1) g)
        ∙ around_low (p + 1 - d + n) (omega arith)
        ∙ e
        ∙ sym (around_high (p + suc n) (omega arith))
  ]

  around_other : (p n : ℕ) → p < d → suc n < d → p ≢ around d (p + suc n)
  around_other p n h k e = elim (lt_or_le (p + suc n) d) [
    | inl l ↦ omega (arith, around_low (p + suc n) l)
    | inr g ↦ omega (arith, around_high (p + suc n) g)
  ]

  pub ring_put_holds :
      (words : List ℕ) (w p n : ℕ) → d ≤ length words → p < d → n < d
      → ring_from (set words (around d (p + n)) w) d p (suc n) ≡ ring_from words d p n ++ w ∷ []
  unfolding ring_from
  ring_put_holds words w p zero long h k =
      let e : p + 0 ≡ p = omega arith in
      rw (e, around_low p h, get_or-set_same words p w 0 (omega arith))
  ring_put_holds words w p (suc n) long h k =
      let next = around d (p + 1) in
      ap (λ m. m ∷ ring_from (set words (around d (p + suc n)) w) d next (suc n))
      (get_or-set_other words (around d (p + suc n)) p w 0 (around_other p n h k))
      ∙ ap (λ m. get_or words p 0 ∷ ring_from (set words m w) d next (suc n)) (sym (around_next p n h k))
      ∙ ap (λ (l : List ℕ). get_or words p 0 ∷ l) (ring_put_holds words w next n long (around_lt d (p + 1) (omega arith)) (omega arith))

  pub length_ring : (words : List ℕ) (p n : ℕ) → length (ring_from words d p n) ≡ n
  unfolding ring_from
  length_ring words p zero = refl
  length_ring words p (suc n) = ap suc (length_ring words (around d (p + 1)) n)
