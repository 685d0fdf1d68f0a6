-- A run stored part by part, and a line stored run by run: cells of one code only lengthen the run, and the rest is a line again.
use Prim.Native.Nat.{ℕ, zero, suc, ◌+◌, ◌-◌, ◌*◌, ◌/◌, ◌<◌, ◌≤◌}
use mathlib.Core.Path.{◌≡◌, refl, sym, ◌∙◌, ap}
use mathlib.Core.Bool.{not}
use mathlib.Core.List.{List, [], ◌∷◌, ◌++◌, append_assoc}
use mathlib.Core.Logic.{inl, inr}
use native.Mathlib.Nat.{add-zero, add-suc, suc-add}
use native.Mathlib.Numerals.{add-one}
use native.Mathlib.Omega.{arith}
use lib.Dec.{eqb}
use lib.ListN.{length, get_or, take, drop, set, length-append, length-set, length-drop}
use lib.Seq.{sets, drop-cons, get_or-take, length-sets}
use Rattle.std.proofs.lemmas.List.{get_or-drop}
use borrow.Author.Tests.{eq-eqb, ne_eqb}
use Rattle.buffers.specs.Pick.{pick}
use Rattle.buffers.specs.Put.{Put}
use Rattle.buffers.proofs.Sets.{sets_append}
use Rattle.buffers.proofs.Split.{lt_or_le}
use Rattle.colours.specs.Cells.{cell_code}
use Rattle.outputs.specs.Decimal.{places, decimal}
use Rattle.outputs.specs.Runs.{run, runs_from, line_of}
use Rattle.outputs.specs.inner.Room.{code_at, rest_of, Same, Under}
use Rattle.outputs.proofs.Lengths.{length_decimal}

pub run_stored : (o p q : List ℕ) (at x code n : ℕ) → x ≡ at + places code → p ≡ sets o at (decimal code)
    → q ≡ sets (set p x 120) (x + 1) (decimal n) → q ≡ sets o at (run code n)
unfolding run
run_stored o p q at x code n e ep eq = rw (sets_append, length_decimal, ← e, ← ep) (rw add-one at eq)

-- cells behind others of a code
module _ (cells : List ℕ) (code i : ℕ) (most : i ≤ length cells) (same : (k : ℕ) → k < i → code_at cells k ≡ code) where
  behind : (k : ℕ) → code_at (drop i cells) k ≡ code_at cells (i + k)
  behind k = ap (λ (n : ℕ). n / 8192) (get_or-drop i cells k 0)

  -- the first r of them have the code too
  further : (r : ℕ) → ((k : ℕ) → k < r → code_at (drop i cells) k ≡ code) → (k : ℕ) → k < i + r → code_at cells k ≡ code
  further r each k h = elim (lt_or_le k i) [
    | inl t ↦ same k t
    | inr t ↦
        let e : i + (k - i) ≡ k = omega arith in
        ap (code_at cells) (sym e) ∙ (sym (behind (k - i)) ∙ each (k - i) (omega arith))
  ]

  pub same_further : (r : ℕ) → Same (drop i cells) code r → Same cells code (i + r)
  same_further r e =
      let n = length-drop i cells in
      record {
        high = omega (arith, n, e.high);
        same = further r e.same;
        other = λ h q. e.other (omega (arith, n)) (behind r ∙ q);
      }

  -- eight of them do
  pub eight_further : (eight : List ℕ) → eight ≡ take 8 (drop i cells) → ((k : ℕ) → k < 8 → get_or eight k 0 / 8192 ≡ code)
      → (k : ℕ) → k < i + 8 → code_at cells k ≡ code
  eight_further eight e each =
      further 8
      (λ j t.
      ap (λ (c : ℕ). c / 8192) (sym (ap (λ (l : List ℕ). get_or l j 0) e ∙ get_or-take 8 (drop i cells) j 0 t)) ∙ each j t)

-- cells of the same code lengthen the run
same_run : (cells : List ℕ) (code n r : ℕ) → r ≤ length cells → ((k : ℕ) → k < r → code_at cells k ≡ code)
    → runs_from code n cells ≡ runs_from code (n + r) (drop r cells)
unfolding runs_from
same_run cells code n zero h each = rw add-zero
same_run [] code n (suc r) h each = absurd (omega arith)
same_run (x ∷ xs) code n (suc r) h each =
    rw (eq-eqb (cell_code x) code (each 0 (omega arith)))
    (same_run xs code (suc n) r (omega arith) (λ k i. each (suc k) (omega arith)) ∙ rw (suc-add n r, add-suc n r))

-- what follows a run: the newline, or a space and the line of the cells after it
followed : (code n : ℕ) (left : List ℕ) → (0 < length left → code_at left 0 ≡ code → ⊥)
    → runs_from code n left ++ (10 ∷ []) ≡ run code n ++ (pick (not (eqb (length left) 0)) 32 10 ∷ rest_of left)
unfolding runs_from rest_of line_of
followed code n [] other = refl
followed code n (y ∷ ys) other =
    rw (ne_eqb (cell_code y) code (other (omega arith)), ne_eqb (length (y ∷ ys)) 0 (λ q. omega arith), append_assoc)

-- a run has a cell at least
pub some_run : (cells : List ℕ) (r : ℕ) → 1 ≤ length cells → Same cells (code_at cells 0) r → 1 ≤ r
some_run cells zero h e = absurd (e.other (omega arith) refl)
some_run cells (suc r) h e = omega arith

first_run : (cells : List ℕ) (r : ℕ) → 1 ≤ length cells → Same cells (code_at cells 0) r
    → rest_of cells ≡ run (code_at cells 0) r ++ (pick (not (eqb (length (drop r cells)) 0)) 32 10 ∷ rest_of (drop r cells))
unfolding rest_of line_of
first_run [] r some e = absurd (omega arith)
first_run (x ∷ xs) zero some e = absurd (e.other (omega arith) refl)
first_run (x ∷ xs) (suc m) some e =
    let one : 1 + m ≡ suc m = omega arith in
    let same = same_run xs (cell_code x) 1 m (omega (arith, e.high)) (λ k h. e.same (suc k) (omega arith)) in
    rw (same, one) (followed (cell_code x) (suc m) (drop m xs) other)
  where
    other : 0 < length (drop m xs) → code_at (drop m xs) 0 ≡ cell_code x → ⊥
    other h q =
        let t : m < length xs = omega (arith, length-drop m xs) in
        e.other (omega arith) (rw (drop-cons xs m 0 t) at q)

-- a line as long as nothing of it is stored
pub line_begins : (old cells : List ℕ) (at : ℕ) → 1 ≤ length cells → Under old old cells at at cells
unfolding rest_of
line_begins old [] at h = absurd (omega arith)
line_begins old (x ∷ xs) at h = record { most = omega arith; fits = omega arith; len = refl; same = refl; long = refl }

-- one run more of the cells that are left, and its mark
module _ (old mid cells left : List ℕ) (at to r : ℕ) (some : 1 ≤ length left) (e : Same left (code_at left 0) r)
    (u : Under old mid cells at to left) where
  abbrev this : List ℕ
  this = run (code_at left 0) r

  pub next_run : (new : List ℕ) (x : ℕ) → new ≡ sets mid to this → x ≡ to + length this → x < to + 4 * r
      → Under old (set new x (pick (not (eqb (length (drop r left)) 0)) 32 10)) cells at (x + 1) (drop r left)
  next_run new x stored after few =
      let n = length-drop r left in
      record {
        most = omega (arith, n, u.most);
        fits = omega (arith, n, few, e.high, u.fits);
        len = simp length-set (ap length stored ∙ (length-sets mid to this ∙ u.len));
        same = sym (ap (sets mid to) (first_run left r some e) ∙ rw (sets_append, ← after, ← stored, add-one)) ∙ u.same;
        long = sym (ap (λ (l : List ℕ). to + length l) (first_run left r some e) ∙ simp length-append (omega (arith, after))) ∙ u.long;
      }

-- all of a line is stored
pub line_ends : {old new : List ℕ} {at to : ℕ} (cells left : List ℕ) → length left ≡ 0 → at + 4 * length cells ≤ length old
    → Under old new cells at to left → Put old new at (line_of cells) to
unfolding rest_of
line_ends cells [] h room u =
    record {
      stored = u.same;
      after = let l = u.long in omega (arith, l);
      inside = omega (arith, u.fits);
    }
line_ends cells (x ∷ xs) h room u = absurd (omega arith)
