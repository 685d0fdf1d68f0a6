-- Flags of the pixels seen: none, one, and some after others.
use Prim.Native.Nat.{ℕ, zero, suc, ◌+◌, ◌<◌}
use mathlib.Core.Bool.{Bool, true, false}
use mathlib.Core.List.{List}
use mathlib.Core.Path.{◌≡◌, refl, sym, ◌∙◌, ap}
use native.Mathlib.Nat.{add-zero}
use native.Mathlib.Omega.{arith}
use borrow.Author.Tests.{eqb-true, eqb-false, lt-ltb}
use lib.Dec.{ltb, eqb}
use lib.ListN.{length, get_or, set, replicate, length-set}
use lib.Seq.{get_or-set_same, get_or-set_other}
use Rattle.buffers.specs.Pick.{pick}
use Rattle.marks.specs.Count.{bit}
use Rattle.marks.specs.inner.Seen.{only, Flagged}

pub zeros_at : (n p : ℕ) → get_or {A = ℕ} (replicate n 0) p 0 ≡ 0
zeros_at zero p = refl
zeros_at (suc n) zero = refl
zeros_at (suc n) (suc p) = zeros_at n p

pub only_at : (q p : ℕ) → q < 256 → get_or (only q) p 0 ≡ bit (eqb p q)
unfolding only
only_at q p l = by (eqb p q) refl
  where
    by : (t : Bool) → eqb p q ≡ t → get_or (set (replicate 256 0) q 1) p 0 ≡ bit t
    by true e =
        ap (λ k. get_or (set (replicate 256 0) q 1) k 0) (eqb-true p q e)
        ∙ get_or-set_same (replicate 256 0) q 1 0 l
    by false e =
        get_or-set_other (replicate 256 0) q p 1 0 (eqb-false p q e) ∙ zeros_at 256 p

pub flagged_none : (flags : List ℕ) (times : ℕ → ℕ) → ((q : ℕ) → q < 256 → times q ≡ 0) → Flagged flags flags times
flagged_none flags times none = record { len = refl; on = λ q l. rw (none q l) }

-- Seen as often, or both some times or both not.
pub flagged_as : {old new : List ℕ} {times others : ℕ → ℕ} → ((q : ℕ) → q < 256 → ltb 0 (times q) ≡ ltb 0 (others q))
    → Flagged old new times → Flagged old new others
flagged_as {old} {new} {times} {others} e f = record { len = f.len; on = λ q l. f.on q l ∙ ap (λ t. pick t 1 (get_or old q 0)) (e q l) }

-- Seen a times and then b times.
pub joined : (a b v : ℕ) → pick (ltb 0 b) 1 (pick (ltb 0 a) 1 v) ≡ pick (ltb 0 (a + b)) 1 v
joined zero zero v = refl
joined (suc a) zero v = rw add-zero
joined zero (suc b) v = rw (lt-ltb 0 (suc b) (omega arith), lt-ltb 0 (zero + suc b) (omega arith))
joined (suc a) (suc b) v = rw (lt-ltb 0 (suc b) (omega arith), lt-ltb 0 (suc a + suc b) (omega arith))

pub flagged_join : {old mid new : List ℕ} {times others : ℕ → ℕ} → Flagged old mid times → Flagged mid new others
    → Flagged old new (λ q. times q + others q)
flagged_join {old} {mid} {new} {times} {others} f h =
    record {
      len = h.len ∙ f.len;
      on = λ q l. h.on q l ∙ ap (λ v. pick (ltb 0 (others q)) 1 v) (f.on q l) ∙ joined (times q) (others q) (get_or old q 0);
    }

-- Pixel p is flagged.
pub flagged_one : (flags : List ℕ) (p : ℕ) → length flags ≡ 256 → p < 256 → Flagged flags (set flags p 1) (λ q. get_or (only q) p 0)
flagged_one flags p e l = record { len = length-set flags p 1; on = λ q m. by q m (eqb p q) refl }
  where
    by : (q : ℕ) → q < 256 → (t : Bool) → eqb p q ≡ t → get_or (set flags p 1) q 0 ≡ pick (ltb 0 (get_or (only q) p 0)) 1 (get_or flags q 0)
    by q m true h =
        rw (only_at q p m, h)
        (ap (λ k. get_or (set flags p 1) k 0) (sym (eqb-true p q h)) ∙ get_or-set_same flags p 1 0 (omega arith))
    by q m false h =
        rw (only_at q p m, h) (get_or-set_other flags p q 1 0 (λ f. eqb-false p q h (sym f)))
