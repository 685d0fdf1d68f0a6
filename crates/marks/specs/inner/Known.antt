-- That facts which a struct carries have one proof at most. No public promise reaches this.
use Rattle.std.specs.Prelude.{ℕ, ◌≡◌, ◌⊎◌}
use Rattle.std.specs.Coded.{Coded-set, coded_ℕ}
use Rattle.std.proofs.Common.{ap, inl, inr, arith}
use Rattle.std.proofs.Props.{props}
use Rattle.registers.specs.inner.Accepted.{Depth}

either_prop : {A B : Type 0} → IsProp A → IsProp B → (A → B → ⊥) → IsProp (A ⊎ B)
either_prop p q n (inl a) (inl b) = ap inl (p a b)
either_prop p q n (inl a) (inr b) = absurd (n a b)
either_prop p q n (inr a) (inl b) = absurd (n b a)
either_prop p q n (inr a) (inr b) = ap inr (q a b)

pub Depth-prop : (d : ℕ) → IsProp (Depth d)
Depth-prop d =
    let is : (n : ℕ) → IsProp (d ≡ n) = λ n. Coded-set coded_ℕ d n in
    either_prop (is 1)
    (either_prop (is 2) (either_prop (is 4) (is 8) (λ a b. omega arith)) (λ a x. elim x [ inl b ↦ omega arith | inr b ↦ omega arith ]))
    (λ a x. elim x [ inl b ↦ omega arith | inr y ↦ elim y [ inl b ↦ omega arith | inr b ↦ omega arith ] ])

pub ruleset known = (props, Depth-prop)
