-- Entries in lent memory: three numbers stored are an entry at its place, and entries one behind another are all of them.
use Prim.Native.Nat.{ℕ, ◌+◌, ◌*◌, ◌/◌, ◌%◌, ◌<◌, ◌≤◌}
use mathlib.Core.List.{List}
use mathlib.Core.Path.{◌≡◌, sym, ◌∙◌, ap}
use native.Mathlib.Omega.{arith}
use lib.ListN.{length, set}
use Rattle.buffers.specs.Painted.{painted}
use Rattle.buffers.proofs.Paints.{Paints, paints_of, paints_painted, paint_none, paint_as, paint_more, paint_next}
use Rattle.registers.specs.declared.record.Registers.{Registers}
use Rattle.registers.specs.declared.setting.Setting.{Setting}
use Rattle.registers.specs.inner.Accepted.{Accepted}
use Rattle.marks.specs.Summaries.{number_of, displayed_rasters, entries_length, entry_number}
use Rattle.marks.specs.inner.Bright.{Tabled, bright}
use Rattle.marks.specs.inner.Shown.{grey_at, entry_by, number_by}
use Rattle.marks.specs.declared.entry.Entry.{Entry}
use Rattle.marks.proofs.Greys.{entry_by_holds}

-- The number that entry e has at place k.
abbrev pub entry_rule : Entry → ℕ → ℕ
entry_rule e k = number_of e (k % 3)

pub three_put : (out : List ℕ) (r : ℕ) (e : Entry) → 3 * r + 3 ≤ length out
    → set (set (set out (3 * r) e.count) (3 * r + 1) e.least) (3 * r + 2) e.greatest ≡ painted out (3 * r) (3 * r + 3) (entry_rule e)
three_put out r e l =
    let zero : 3 * r % 3 ≡ 0 = omega arith in
    let one : (3 * r + 1) % 3 ≡ 1 = omega arith in
    let two : (3 * r + 2) % 3 ≡ 2 = omega arith in
    let none : Paints 0 out out (3 * r) (3 * r) (entry_rule e) = paint_none (3 * r) (entry_rule e) in
    let first = paint_more e.count (omega arith) (omega arith) (sym (ap (number_of e) zero)) none in
    let second = paint_more e.least (omega arith) (omega arith) (sym (ap (number_of e) one)) first in
    let behind : 3 * r + 1 + 1 ≡ 3 * r + 2 = omega arith in
    let end : 3 * r + 2 + 1 ≡ 3 * r + 3 = omega arith in
    let third = paint_more e.greatest (omega arith) (omega arith) (sym (ap (number_of e) two)) (rw behind at second) in
    paints_painted l (rw end at third)

-- One entry more behind those below r.
pub entry_put : {out m n : List ℕ} (e : Entry) (r : ℕ) (f : ℕ → ℕ) → 3 * r + 3 ≤ length out → Paints 0 out m 0 (3 * r) f
    → n ≡ painted m (3 * r) (3 * r + 3) (entry_rule e) → ((k : ℕ) → k / 3 ≡ r → entry_rule e k ≡ f k) → Paints 0 out n 0 (3 * (r + 1)) f
entry_put {out} {m} {n} e r f l p h same =
    let end : 3 * (r + 1) ≡ 3 * r + 3 = omega arith in
    let here : Paints 0 m n (3 * r) (3 * r + 3) f = paint_as f (λ k a b. same k (omega arith)) (paints_of (omega (arith, p.len)) h) in
    rw end (paint_next (omega arith) (omega arith) p here)

-- An entry made by tables has the numbers that are kept of it.
pub number_by_holds : (greys pixels : List ℕ) (s : Setting) (video cursor : List ℕ) (e : Entry) (r k : ℕ) → k / 3 ≡ r
    → e ≡ entry_by greys pixels s video cursor (s.vds.0 + r) → entry_rule e k ≡ number_by greys pixels s video cursor k
unfolding number_by
number_by_holds greys pixels s video cursor e r k h q = rw (q, h)

-- By tables that hold what they should, all numbers of displayed rasters are those of the cells.
module _ (g : Registers) (s : Setting) (video cursor : List ℕ) (threshold : ℕ) (greys pixels : List ℕ) (a : Accepted s)
    (t : Tabled greys 256 (grey_at g s.depth)) (u : Tabled pixels 256 (bright g s.depth threshold)) where
  pub number_at : (k : ℕ) → k / 3 < displayed_rasters s → number_by greys pixels s video cursor k ≡ entry_number g s video cursor threshold k
  unfolding number_by entry_number
  number_at k l =
      ap (λ e. number_of e (k % 3))
      (entry_by_holds g s video cursor a (s.vds.0 + k / 3) (omega arith) (omega arith) greys t threshold pixels u)

  pub all_put : {m : List ℕ} (out : List ℕ) → entries_length s ≤ length out → m ≡ painted out 0 (entries_length s) (number_by greys pixels s video cursor)
      → m ≡ painted out 0 (entries_length s) (entry_number g s video cursor threshold)
  all_put out l e = paints_painted {d = 0} l (paint_as (entry_number g s video cursor threshold) (λ k p q. number_at k (omega arith)) (paints_of l e))

  -- One raster's.
  pub one_put : {m : List ℕ} (out : List ℕ) (e : Entry) (r : ℕ) → r < displayed_rasters s → entries_length s ≤ length out
      → e ≡ entry_by greys pixels s video cursor (s.vds.0 + r) → m ≡ painted out (3 * r) (3 * r + 3) (entry_rule e)
      → m ≡ painted out (3 * r) (3 * r + 3) (entry_number g s video cursor threshold)
  one_put out e r here l h q =
      let fits : 3 * r + 3 ≤ length out = omega arith in
      paints_painted {d = 0} fits
      (paint_as (entry_number g s video cursor threshold)
      (λ k p n. let at : k / 3 ≡ r = omega arith in number_by_holds greys pixels s video cursor e r k at h ∙ number_at k (rw at here)) (paints_of fits q))
