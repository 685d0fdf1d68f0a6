-- The line of cells whose codes stand in runs: each run's code and length, as long as no run has the code of the run before it.
use Prim.Native.Nat.{ℕ, zero, suc, ◌+◌, ◌-◌}
use mathlib.Core.Path.{◌≡◌, refl, ◌∙◌, ap}
use mathlib.Core.Bool.{false}
use mathlib.Core.List.{List, [], ◌∷◌, ◌++◌, map}
use native.Mathlib.Omega.{arith}
use lib.Dec.{eqb}
use lib.ListN.{replicate}
use borrow.Author.Tests.{eq-eqb}
use Rattle.buffers.specs.Pick.{pick}
use Rattle.colours.specs.Cells.{cell_code}
use Rattle.outputs.specs.Runs.{run, runs_from, line_of}

-- A run: a code, and how often it stands there after the first time.
pub record Codes : Type 0 where
  pub code : ℕ
  pub more : ℕ

-- A code n times, at least once.
infix 60 ◌of◌
abbrev pub ◌of◌ : ℕ → ℕ → Codes
n of code = record { code = code; more = n - 1 }

abbrev pub spread : List Codes → List ℕ
spread [] = []
spread (r ∷ rs) = r.code ∷ (replicate r.more r.code ++ spread rs)

-- No run has the code of the run before it.
abbrev pub Apart : ℕ → List Codes → Type 0
Apart c [] = Unit {0}
Apart c (r ∷ rs) = (eqb r.code c ≡ false) × Apart r.code rs

-- The text of a run of n of a code, and of the runs after it.
abbrev pub runs_text : ℕ → ℕ → List Codes → List ℕ
runs_text c n [] = run c n
runs_text c n (r ∷ rs) = run c n ++ (32 ∷ runs_text r.code (suc r.more) rs)

-- The line of some cells is that of their codes.
runs_in : ℕ → ℕ → List ℕ → List ℕ
runs_in c n [] = run c n
runs_in c n (x ∷ xs) = pick (eqb x c) (runs_in c (suc n) xs) (run c n ++ (32 ∷ runs_in x 1 xs))

line_in : List ℕ → List ℕ
line_in [] = 10 ∷ []
line_in (x ∷ xs) = runs_in x 1 xs ++ (10 ∷ [])

by_codes : (c n : ℕ) (l : List ℕ) → runs_from c n l ≡ runs_in c n (map cell_code l)
unfolding runs_from runs_in
by_codes c n [] = refl
by_codes c n (x ∷ l) = rw (by_codes c (suc n) l, by_codes (cell_code x) 1 l)

line_by_codes : (l : List ℕ) → line_of l ≡ line_in (map cell_code l)
unfolding line_of line_in
line_by_codes [] = refl
line_by_codes (x ∷ l) = rw (by_codes (cell_code x) 1 l)

same_run : (c n k : ℕ) (rest : List ℕ) → runs_in c n (replicate k c ++ rest) ≡ runs_in c (n + k) rest
unfolding runs_in
same_run c n zero rest = ap (λ (m : ℕ). runs_in c m rest) (omega arith)
same_run c n (suc k) rest = rw (eq-eqb c c refl) (same_run c (suc n) k rest ∙ ap (λ (m : ℕ). runs_in c m rest) (omega arith))

one_run : (r : Codes) (rest : List ℕ) → runs_in r.code 1 (replicate r.more r.code ++ rest) ≡ runs_in r.code (suc r.more) rest
one_run r rest = same_run r.code 1 r.more rest ∙ ap (λ (m : ℕ). runs_in r.code m rest) (omega arith)

runs_spread : (c n : ℕ) (rs : List Codes) → Apart c rs → runs_in c n (spread rs) ≡ runs_text c n rs
unfolding runs_in
runs_spread c n [] a = refl
runs_spread c n (r ∷ rs) a = rw (a.0, one_run r (spread rs), runs_spread r.code (suc r.more) rs a.1)

pub line_spread : (cells : List ℕ) (r : Codes) (rs : List Codes) → map cell_code cells ≡ spread (r ∷ rs) → Apart r.code rs
    → line_of cells ≡ runs_text r.code (suc r.more) rs ++ (10 ∷ [])
unfolding line_in
line_spread cells r rs e a =
    line_by_codes cells ∙ ap line_in e ∙ rw (one_run r (spread rs), runs_spread r.code (suc r.more) rs a)
