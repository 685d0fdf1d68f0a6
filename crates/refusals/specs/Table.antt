-- How a table of refusals answers: the first row whose test holds refuses; where none does, what was asked for is given.
use Rattle.std.specs.Prelude.{ℕ, ◌≡◌, ◌⊎◌, Bool, true, false, List, [], ◌∷◌, eqb}
use Rattle.buffers.specs.Pick.{pick}

-- What a refusal carries: its number and its detail, 0 unless the paper's table names one. What carries more gets a field here.
pub record Why : Type 0 where
  pub number : ℕ
  pub detail : ℕ

abbrev pub why : ℕ → ℕ → Why
why n d = record { number = n; detail = d }

-- What a call tells: what it was asked for, or why it refuses.
pub data Told (A : Type 0) : Type 0 where
  given : A → Told A
  refused : Why → Told A

-- A row of the table: when it is given, and what it then carries.
pub record Row : Type 0 where
  pub when : Bool
  pub tells : Why

abbrev pub row : ℕ → Bool → ℕ → Row
row n t d = record { when = t; tells = why n d }

-- The first row whose test holds answers; where none does, what was asked for is given.
abbrev pub judged : {A : Type 0} → List Row → A → Told A
judged [] a = given a
judged (r ∷ rs) a = pick r.when (refused r.tells) (judged rs a)

-- A second table is judged where the first gives what it was asked for.
abbrev pub and_then : {A B : Type 0} → Told A → (A → Told B) → Told B
and_then (given a) next = next a
and_then (refused w) next = refused w

-- What stands afterwards: as it was, where the call is refused.
abbrev pub unless_refused : {A B : Type 0} → Told A → B → B → B
unless_refused (given a) was then = then
unless_refused (refused w) was then = was

-- The test of the row with a number, wherever in the table it stands.
abbrev pub test_of : ℕ → List Row → Bool
test_of n [] = false
test_of n (r ∷ rs) = pick (eqb r.tells.number n) r.when (test_of n rs)

-- No row's test holds.
abbrev pub Passes : List Row → Type 0
Passes [] = Unit {0}
Passes (r ∷ rs) = (r.when ≡ false) × Passes rs

-- What is told is that of the first row whose test holds.
abbrev pub First : List Row → Why → Type 0
First [] w = ⊥
First (r ∷ rs) w = ((r.when ≡ true) × (r.tells ≡ w)) ⊎ ((r.when ≡ false) × First rs w)
