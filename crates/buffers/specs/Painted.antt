-- What lent memory holds after a call: each place from a up to b its rule's value, and every other place what it held.
use Rattle.std.specs.Prelude.{ℕ, suc, List, [], ◌∷◌, ltb, leb}
use Rattle.buffers.specs.Pick.{pick}

-- Each element replaced by what a rule makes of its place, counted from k, and of itself.
unfoldable pub each_from : {A : Type 0} → ℕ → (ℕ → A → A) → List A → List A
each_from k rule [] = []
each_from k rule (x ∷ l) = rule k x ∷ each_from (suc k) rule l

-- Places past the list's end are passed over.
unfoldable pub painted : {A : Type 0} → List A → ℕ → ℕ → (ℕ → A) → List A
painted l a b f = each_from 0 (λ k x. pick (leb a k) (pick (ltb k b) (f k) x) x) l
