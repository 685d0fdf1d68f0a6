-- What the digits of a head say: a number that is capped once it is past 65,535 is the one that is asked for exactly where they say that one.
use Prim.Native.Nat.{ℕ, ◌+◌, ◌-◌, ◌*◌, ◌<◌, ◌≤◌}
use mathlib.Core.List.{List, [], ◌∷◌, ◌++◌}
use mathlib.Core.Logic.{◌↔◌, inl, inr}
use mathlib.Core.Path.{◌≡◌, refl}
use native.Mathlib.Omega.{arith}
use borrow.Author.Tests.{lt-ltb, le-ltb}
use Rattle.std.proofs.lemmas.Bool.{cases_lt}
use Rattle.pictures.specs.Head.{said_behind}
use Rattle.pictures.specs.HeadNext.{with_digit}

unfoldable pub capped_behind : ℕ → List ℕ → ℕ
capped_behind m [] = m
capped_behind m (d ∷ ds) = capped_behind (with_digit m (d - 48)) ds

-- One digit more.
pub capped_more : (m : ℕ) (ds : List ℕ) (d : ℕ) → capped_behind m (ds ++ (d ∷ [])) ≡ with_digit (capped_behind m ds) (d - 48)
unfolding capped_behind
capped_more m [] d = refl
capped_more m (e ∷ ds) d = capped_more (with_digit m (e - 48)) ds d

-- Past 65,535 the one stays as it is and the other does not fall.
capped_stays : (m : ℕ) (ds : List ℕ) → 65535 < m → capped_behind m ds ≡ m
unfolding capped_behind
capped_stays m [] h = refl
capped_stays m (d ∷ ds) h = rw (lt-ltb 65535 m h) (capped_stays m ds h)

said_grows : (m : ℕ) (ds : List ℕ) → m ≤ said_behind m ds
unfolding said_behind
said_grows m [] = omega arith
said_grows m (d ∷ ds) = omega (arith, said_grows (10 * m + (d - 48)) ds)

pub capped_says : (number m : ℕ) (ds : List ℕ) → number ≤ 65535 → (capped_behind m ds ≡ number) ↔ (said_behind m ds ≡ number)
unfolding capped_behind said_behind
capped_says number m [] few = (λ e. e, λ e. e)
capped_says number m (d ∷ ds) few =
    elim (cases_lt 65535 m) [
      | inl h ↦ (
        λ e. absurd (omega (arith, capped_stays m (d ∷ ds) h)),
        λ e. absurd (omega (arith, said_grows m (d ∷ ds))),
      )
      | inr h ↦ rw (le-ltb 65535 m h) (capped_says number (10 * m + (d - 48)) ds few)
    ]
