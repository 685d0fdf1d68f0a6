-- How a call's answers are spoken of: by its own promise, and by its whole table of refusals, in order.
use Rattle.std.specs.Prelude.{ℕ, ◌≡◌, List, [], ◌∷◌, ◌⊎◌, ◌↔◌}
use borrow.Fn.Kinds.{ParamKind, ResultKind, Out, Dens, res_t, ended_of}
use contract.Lifetimes.{Lfts}
use denote.Triple.Clauses.{AtExit}
use Rattle.refusals.specs.Table.{Why, Told, given, refused, Row, Passes, First}

-- What holds of every run that a call's promise permits.
abbrev pub Always : (n : ℕ) (ps : List (ParamKind n)) (r : ResultKind n)
    → ((κs : Lfts n) → Dens κs ps → (res_t r κs).Denot → AtExit (ended_of n ps r) κs → Type 0) → Out n ps r → Type 0
Always n ps r holds post =
    (κs : Lfts n) (a : Dens κs ps) (x : (res_t r κs).Denot) (s : AtExit (ended_of n ps r) κs) → post κs a x s → holds κs a x s

-- A call: its parameters, its promise (`Post` is its `ensures` as the source states it), and what is seen of a run, by name.
pub record Call : Type 3 where
  pub lifetimes : ℕ
  pub parameters : List (ParamKind lifetimes)
  pub result : ResultKind lifetimes
  pub promise : Out lifetimes parameters result
  pub Seen : Type 0
  pub seen : (κs : Lfts lifetimes) → Dens κs parameters → (res_t result κs).Denot → AtExit (ended_of lifetimes parameters result) κs → Seen

abbrev pub call : (n : ℕ) (ps : List (ParamKind n)) (r : ResultKind n) → Out n ps r → (Seen : Type 0)
    → ((κs : Lfts n) → Dens κs ps → (res_t r κs).Denot → AtExit (ended_of n ps r) κs → Seen) → Call
call n ps r post Seen seen = record { lifetimes = n; parameters = ps; result = r; promise = post; Seen = Seen; seen = seen }

-- What holds of everything that can be seen of a call.
abbrev pub Every : (c : Call) → (c.Seen → Type 0) → Type 0
Every c holds = Always c.lifetimes c.parameters c.result (λ κs a x s. holds (c.seen κs a x s)) c.promise

-- A call was run, as its promise permits, and this was seen of it.
pub record Ran (c : Call) (run : c.Seen) : Type 0 where
  pub lifetimes : Lfts c.lifetimes
  pub arguments : Dens lifetimes c.parameters
  pub answer : (res_t c.result lifetimes).Denot
  pub exit : AtExit (ended_of c.lifetimes c.parameters c.result) lifetimes
  pub promise : c.promise lifetimes arguments answer exit
  pub is : c.seen lifetimes arguments answer exit ≡ run

-- The numbers of a table, in its order.
abbrev pub numbers : List Row → List ℕ
numbers [] = []
numbers (r ∷ rs) = r.tells.number ∷ numbers rs

-- Those of the setting's table, with which the tables of picture calls begin.
abbrev pub setting_numbers : List ℕ
setting_numbers = 3 ∷ 4 ∷ 5 ∷ 6 ∷ 19 ∷ 7 ∷ 8 ∷ 9 ∷ []

abbrev pub OneOf : ℕ → List ℕ → Type 0
OneOf n [] = ⊥
OneOf n (m ∷ ms) = (n ≡ m) ⊎ OneOf n ms

-- An answer goes by a table: what is asked for is given exactly when no row's test holds, and a number with its detail
-- exactly when they are those of the first row whose test holds. No other number is ever answered.
pub record ByTable {A : Type 0} (t : Told A) (rows : List Row) (a : A) : Type 0 where
  pub given_when : (t ≡ given a) ↔ Passes rows
  pub given_what : (b : A) → t ≡ given b → b ≡ a
  pub refused_when : (w : Why) → (t ≡ refused w) ↔ First rows w
  pub refused_with : (w : Why) → t ≡ refused w → OneOf w.number (numbers rows)

-- Nothing changes where a call is refused.
abbrev pub Kept : {A B : Type 0} → Told A → B → B → Type 0
Kept t before after = (w : Why) → t ≡ refused w → after ≡ before
