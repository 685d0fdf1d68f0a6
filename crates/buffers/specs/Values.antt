-- The values of a rule, one after another.
use Rattle.std.specs.Prelude.{ℕ, zero, suc, List, [], ◌∷◌}

-- At n places from k on.
unfoldable pub values_from : (ℕ → ℕ) → ℕ → ℕ → List ℕ
values_from rule k zero = []
values_from rule k (suc n) = rule k ∷ values_from rule (suc k) n
