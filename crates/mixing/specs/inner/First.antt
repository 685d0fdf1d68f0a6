-- The first of a list's numbers that has more than 12 bits, as its functions ask it of each other; no public promise reaches this.
use Rattle.std.specs.Prelude.{ℕ, ◌<◌, ◌≤◌, List, length, get_or}

-- None of the numbers before a place has.
abbrev pub FewBefore : List ℕ → ℕ → Type 0
FewBefore l n = (k : ℕ) → k < n → get_or l k 0 ≤ 4095

abbrev pub AllFew : List ℕ → Type 0
AllFew l = FewBefore l (length l)

pub record FirstLarge (l : List ℕ) (i : ℕ) : Type 0 where
  pub inside : i < length l
  pub above : 4095 < get_or l i 0
  pub first : FewBefore l i
