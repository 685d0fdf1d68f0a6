-- A list in two halves: it can be loaded exactly where both can and there are not too many words, and what it leaves is what the second half leaves of
-- what the first left. So a list that is accepted whole is accepted from there on.
use Prim.Native.Nat.{ℕ, zero, suc, ◌<◌, ◌≤◌}
use mathlib.Core.Path.{◌≡◌, refl}
use mathlib.Core.Bool.{Bool, true, false}
use mathlib.Core.List.{List, [], ◌∷◌, ◌++◌}
use mathlib.Core.Logic.{◌↔◌}
use native.Mathlib.Omega.{arith}
use lib.ListN.{length, length-append, get_or}
use borrow.Author.Tests.{ltb-false, le-ltb}
use Rattle.buffers.specs.Pick.{pick}
use Rattle.refusals.specs.Table.{given}
use Rattle.refusals.proofs.Tables.{◌⨾◌, given_passes, passes_given}
use Rattle.registers.specs.Record.{slot_of, reserved, stored_of}
use Rattle.registers.specs.Load.{leading, applied, load_table, load_told}
use Rattle.registers.specs.Rules.{Loadable}
use Rattle.registers.specs.declared.record.Registers.{Registers}

-- all words lead where the first is not reserved and all others lead
pub first_leads : (w : ℕ) (ws : List ℕ) → length (w ∷ ws) ≤ leading (w ∷ ws) → (reserved (slot_of w) ≡ false) × (length ws ≤ leading ws)
unfolding leading
first_leads w ws h = go (reserved (slot_of w)) h
  where
    go : (t : Bool) → suc (length ws) ≤ pick t 0 (suc (leading ws)) → (t ≡ false) × (length ws ≤ leading ws)
    go true h = absurd (omega arith)
    go false h = (refl, omega arith)

leads_first : (w : ℕ) (ws : List ℕ) → reserved (slot_of w) ≡ false → length ws ≤ leading ws → length (w ∷ ws) ≤ leading (w ∷ ws)
unfolding leading
leads_first w ws e h = rw e (omega (arith, h))

-- so no word is reserved, and the other way about
all_lead : (ws : List ℕ) → length ws ≤ leading ws → (k : ℕ) → k < length ws → reserved (slot_of (get_or ws k 0)) ≡ false
all_lead [] h k l = absurd (omega arith)
all_lead (w ∷ ws) h zero l = (first_leads w ws h).0
all_lead (w ∷ ws) h (suc k) l = all_lead ws (first_leads w ws h).1 k (omega arith)

none_reserved : (ws : List ℕ) → ((k : ℕ) → k < length ws → reserved (slot_of (get_or ws k 0)) ≡ false) → length ws ≤ leading ws
none_reserved [] all = omega arith
none_reserved (w ∷ ws) all = leads_first w ws (all 0 (omega arith)) (none_reserved ws (λ k l. all (suc k) (omega arith)))

pub load_passes : (ws : List ℕ) → load_told ws ≡ given tt → (length ws ≤ 1024) × (length ws ≤ leading ws)
unfolding load_told
load_passes ws e = let p = (given_passes tt (load_table ws) tt e).0 in (ltb-false _ _ p.0, ltb-false _ _ p.1.0)

pub passes_load : (ws : List ℕ) → length ws ≤ 1024 → length ws ≤ leading ws → load_told ws ≡ given tt
unfolding load_told
passes_load ws few lead = passes_given tt (load_table ws) (le-ltb _ _ few ⨾ le-ltb _ _ lead ⨾ tt)

-- a list is loaded exactly where it can be
pub loads_exactly : (ws : List ℕ) → (load_told ws ≡ given tt) ↔ Loadable ws
loads_exactly ws = (
  λ e. let p = load_passes ws e in record { few = p.0; named = all_lead ws p.1 },
  λ l. passes_load ws l.few (none_reserved ws l.named),
)

lead_halves : (xs ys : List ℕ) → length (xs ++ ys) ≤ leading (xs ++ ys) → (length xs ≤ leading xs) × (length ys ≤ leading ys)
lead_halves [] ys h = (omega arith, h)
lead_halves (x ∷ xs) ys h =
    let first = first_leads x (xs ++ ys) h in
    let p = lead_halves xs ys first.1 in
    (leads_first x xs first.0 p.0, p.1)

halves_lead : (xs ys : List ℕ) → length xs ≤ leading xs → length ys ≤ leading ys → length (xs ++ ys) ≤ leading (xs ++ ys)
halves_lead [] ys h k = k
halves_lead (x ∷ xs) ys h k =
    let first = first_leads x xs h in
    leads_first x (xs ++ ys) first.0 (halves_lead xs ys first.1 k)

-- the words of both halves, applied in order
pub applied_halves : (g : Registers) (xs ys : List ℕ) → applied g (xs ++ ys) ≡ applied (applied g xs) ys
unfolding applied
applied_halves g [] ys = refl
applied_halves g (x ∷ xs) ys = applied_halves (stored_of g x) xs ys

module _ (xs ys : List ℕ) where
  pub load_halves : load_told (xs ++ ys) ≡ given tt → (load_told xs ≡ given tt) × (load_told ys ≡ given tt)
  load_halves e =
      let p = load_passes (xs ++ ys) e in
      let q = lead_halves xs ys p.1 in
      let n = length-append xs ys in
      (passes_load xs (omega (arith, p.0, n)) q.0, passes_load ys (omega (arith, p.0, n)) q.1)

  pub halves_load : length (xs ++ ys) ≤ 1024 → load_told xs ≡ given tt → load_told ys ≡ given tt → load_told (xs ++ ys) ≡ given tt
  halves_load few e f = passes_load (xs ++ ys) few (halves_lead xs ys (load_passes xs e).1 (load_passes ys f).1)
