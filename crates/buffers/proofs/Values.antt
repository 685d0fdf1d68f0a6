-- Laws of a rule's values: how many, which, and that painting them from the first place on leaves them there.
use Prim.Native.Nat.{ℕ, zero, suc, ◌+◌, ◌<◌, ◌≤◌}
use mathlib.Core.Path.{◌≡◌, refl, sym, ◌∙◌, ap}
use mathlib.Core.List.{List}
use native.Mathlib.Nat.{zero-add}
use native.Mathlib.Omega.{arith}
use lib.ListN.{length, take, get_or}
use lib.Seq.{ext_get_or, get_or-take, length-take-le}
use Rattle.buffers.specs.Painted.{painted}
use Rattle.buffers.specs.Values.{values_from}
use Rattle.buffers.proofs.Paints.{Paints, paints_of, length_painted}

pub length_values : (rule : ℕ → ℕ) (k n : ℕ) → length (values_from rule k n) ≡ n
unfolding values_from
length_values rule k zero = refl
length_values rule k (suc n) = ap suc (length_values rule (suc k) n)

pub get_d_values : (rule : ℕ → ℕ) (k n i : ℕ) → i < n → get_or (values_from rule k n) i 0 ≡ rule (k + i)
unfolding values_from
get_d_values rule k zero i h = absurd (omega arith)
get_d_values rule k (suc n) zero h = ap rule (let q : k ≡ k + 0 = omega arith in q)
get_d_values rule k (suc n) (suc i) h =
    get_d_values rule (suc k) n i (omega arith) ∙ ap rule (let q : suc k + i ≡ k + suc i = omega arith in q)

-- A list painted whole.
pub paints_values : (l m : List ℕ) (n : ℕ) (rule : ℕ → ℕ) → length l ≡ n → Paints 0 l m 0 n rule → m ≡ values_from rule 0 n
paints_values l m n rule long p =
    ext_get_or 0 m _ (p.len ∙ long ∙ sym (length_values rule 0 n))
    (λ i j. let here : i < n = omega (arith, p.len, long) in p.on i (omega arith) here ∙ sym (get_d_values rule 0 n i here ∙ ap rule (zero-add i)))

-- The first n places of a list of which they are painted.
pub painted_values : (l : List ℕ) (n : ℕ) (rule : ℕ → ℕ) → n ≤ length l → take n (painted l 0 n rule) ≡ values_from rule 0 n
painted_values l n rule h =
    let p = paints_of {d = 0} {l = l} {a = 0} {f = rule} h refl in
    let t : length (take n (painted l 0 n rule)) ≡ n = length-take-le n _ (rw length_painted h) in
    ext_get_or 0 _ _ (t ∙ sym (length_values rule 0 n))
    (λ i j.
    get_or-take n _ i 0 (omega (arith, t))
    ∙ (p.on i (omega arith) (omega (arith, t)) ∙ sym (get_d_values rule 0 n i (omega (arith, t)) ∙ ap rule (zero-add i))))
