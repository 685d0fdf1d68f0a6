-- How a table answers: the first row whose test holds, and what was asked for exactly where none does.
use Prim.Native.Nat.{ℕ}
use mathlib.Core.Path.{◌≡◌, refl, sym, ◌∙◌, ap}
use mathlib.Core.Bool.{Bool, true, false, ◌&&◌, ◌||◌}
use mathlib.Core.List.{List, [], ◌∷◌, ◌++◌}
use mathlib.Core.Logic.{inl, inr}
use native.Mathlib.Omega.{arith}
use lib.Dec.{eqb}
use borrow.Author.Tests.{eq-eqb}
use Rattle.buffers.specs.Pick.{pick}
use Rattle.buffers.proofs.Tests.{and_join, or_left, or_right, or_neither, no}
use Rattle.refusals.specs.Table.{Why, given, refused, Row, judged, and_then, test_of, Passes, First}

-- what was asked for is never a refusal
pub never : {A : Type 0} {P : Type 0} {a : A} {w : Why} → given a ≡ refused w → P
never e = let z : ◌≡◌ {A = ℕ} 0 1 = cc in absurd (omega arith)

-- where no test holds, that of the row with a number doesn't, wherever it stands
pub passed : (n : ℕ) (rows : List Row) → Passes rows → test_of n rows ≡ false
passed n [] p = refl
passed n (r ∷ rs) p = go (eqb r.tells.number n) (passed n rs p.1)
  where
    go : (t : Bool) → test_of n rs ≡ false → pick t r.when (test_of n rs) ≡ false
    go true e = p.0
    go false e = e

-- a table passed, row by row, each by the fact that its test does not hold: `fact ⨾ fact ⨾ .. ⨾ tt`
infixr 5 ◌⨾◌
pub ◌⨾◌ : {A B : Type 0} → A → B → A × B
e ⨾ p = (e, p)

-- two tables one after the other
pub passes_both : (rows more : List Row) → Passes rows → Passes more → Passes (rows ++ more)
passes_both [] more p q = q
passes_both (r ∷ rs) more p q = (p.0, passes_both rs more p.1 q)

pub passes_first : (rows more : List Row) → Passes (rows ++ more) → Passes rows
passes_first [] more p = tt
passes_first (r ∷ rs) more p = (p.0, passes_first rs more p.1)

pub passes_second : (rows more : List Row) → Passes (rows ++ more) → Passes more
passes_second [] more p = p
passes_second (r ∷ rs) more p = passes_second rs more p.1

module _ {A : Type 0} (a : A) where
  pub passes_given : (rows : List Row) → Passes rows → judged rows a ≡ given a
  passes_given [] p = refl
  passes_given (r ∷ rs) p = rw p.0 (passes_given rs p.1)

  pub given_passes : (rows : List Row) (b : A) → judged rows a ≡ given b → Passes rows × (a ≡ b)
  given_passes [] b e = (tt, cc)
  given_passes (r ∷ rs) b e = go r.when refl e (λ q. given_passes rs b q)
    where
      go : (t : Bool) → r.when ≡ t → pick t (refused r.tells) (judged rs a) ≡ given b
          → (judged rs a ≡ given b → Passes rs × (a ≡ b)) → Passes (r ∷ rs) × (a ≡ b)
      go true w q more = never (sym q)
      go false w q more = ((w, (more q).0), (more q).1)

  pub refused_first : (rows : List Row) (w : Why) → judged rows a ≡ refused w → First rows w
  refused_first [] w e = never e
  refused_first (r ∷ rs) w e = go r.when refl e (λ q. refused_first rs w q)
    where
      go : (t : Bool) → r.when ≡ t → pick t (refused r.tells) (judged rs a) ≡ refused w
          → (judged rs a ≡ refused w → First rs w) → First (r ∷ rs) w
      go true h q more = inl (h, cc)
      go false h q more = inr (h, more q)

  pub first_refused : (rows : List Row) (w : Why) → First rows w → judged rows a ≡ refused w
  first_refused [] w f = absurd f
  first_refused (r ∷ rs) w (inl f) = rw (f.0, f.1)
  first_refused (r ∷ rs) w (inr f) = rw f.0 (first_refused rs w f.1)

-- a row with the number n stands before every row with the number m
abbrev pub precedes : ℕ → ℕ → List Row → Bool
precedes n m [] = false
precedes n m (r ∷ rs) = pick (eqb r.tells.number m) false (pick (eqb r.tells.number n) true (precedes n m rs))

-- the test of some row with the number n holds
abbrev pub some_test : ℕ → List Row → Bool
some_test n [] = false
some_test n (r ∷ rs) = (eqb r.tells.number n && r.when) || some_test n rs

same_number : {v w : Why} → v ≡ w → eqb v.number w.number ≡ true
same_number e = eq-eqb _ _ (ap (λ (v : Why). v.number) e)

-- where a refusal is given, the rows before those with its number were passed,
pub first_passed : (n : ℕ) (rows : List Row) (w : Why) → precedes n w.number rows ≡ true → First rows w → test_of n rows ≡ false
first_passed n [] w e f = absurd f
first_passed n (r ∷ rs) w e (inl f) = absurd (no (rw (same_number f.1) at e))
first_passed n (r ∷ rs) w e (inr f) = go (eqb r.tells.number w.number) (eqb r.tells.number n) e (λ h. first_passed n rs w h f.1)
  where
    go : (here there : Bool) → pick here false (pick there true (precedes n w.number rs)) ≡ true
        → (precedes n w.number rs ≡ true → test_of n rs ≡ false) → pick there r.when (test_of n rs) ≡ false
    go true there h more = absurd (no h)
    go false true h more = f.0
    go false false h more = more h

-- and of these one holds
pub first_holds : (rows : List Row) (w : Why) → First rows w → some_test w.number rows ≡ true
first_holds [] w f = absurd f
first_holds (r ∷ rs) w (inl f) = or_left (some_test w.number rs) (and_join (same_number f.1) f.0)
first_holds (r ∷ rs) w (inr f) = or_right (eqb r.tells.number w.number && r.when) (first_holds rs w f.1)

-- some row has the number n
abbrev pub has_number : ℕ → List Row → Bool
has_number n [] = false
has_number n (r ∷ rs) = eqb r.tells.number n || has_number n rs

-- of two tables one after the other, where the first has no row with a refusal's number it was passed, and the second refuses
pub first_behind : (rows more : List Row) (w : Why) → has_number w.number rows ≡ false → First (rows ++ more) w → Passes rows × First more w
first_behind [] more w e f = (tt, f)
first_behind (r ∷ rs) more w e (inl f) = absurd (no (sym (or_neither (eqb r.tells.number w.number) _ e).0 ∙ same_number f.1))
first_behind (r ∷ rs) more w e (inr f) =
    let p = first_behind rs more w (or_neither (eqb r.tells.number w.number) _ e).1 f.1 in
    ((f.0, p.0), p.1)

pub behind_first : (rows more : List Row) (w : Why) → Passes rows → First more w → First (rows ++ more) w
behind_first [] more w p f = f
behind_first (r ∷ rs) more w p f = inr (p.0, behind_first rs more w p.1 f)

-- a table judged for one thing, told for another
pub judged_then : {A B : Type 0} (a : A) (b : B) (rows : List Row) → judged rows b ≡ and_then (judged rows a) (λ _. given b)
judged_then a b [] = refl
judged_then a b (r ∷ rs) = go r.when (judged_then a b rs)
  where
    go : (t : Bool) → judged rs b ≡ and_then (judged rs a) (λ _. given b)
        → pick t (refused r.tells) (judged rs b) ≡ and_then (pick t (refused r.tells) (judged rs a)) (λ _. given b)
    go true e = refl
    go false e = e

-- one table after another is judged as one with it; the second may speak of what the first gives
pub and_then_judged : {A B : Type 0} (b : B) (rows : List Row) (more : B → List Row) (a : B → A)
    → and_then (judged rows b) (λ c. judged (more c) (a c)) ≡ judged (rows ++ more b) (a b)
and_then_judged b [] more a = refl
and_then_judged b (r ∷ rs) more a = go r.when (and_then_judged b rs more a)
  where
    go : (t : Bool) → and_then (judged rs b) (λ c. judged (more c) (a c)) ≡ judged (rs ++ more b) (a b)
        → and_then (pick t (refused r.tells) (judged rs b)) (λ c. judged (more c) (a c))
        ≡ pick t (refused r.tells) (judged (rs ++ more b) (a b))
    go true e = refl
    go false e = e
