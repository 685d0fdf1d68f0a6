-- A part of some words, in their own memory; no public promise reaches this.
use Rattle.std.specs.Prelude.{ℕ, ◌+◌, ◌*◌, ◌≡◌, List}
use Rattle.std.specs.Borrow.{Bor}
use Rattle.sheets.specs.Sheet.{part}

pub record IsPart (all list : Bor (List ℕ)) (from to : ℕ) : Type 0 where
  pub words : list.now ≡ part all.now from to
  pub memory : list.ref_ptr.0 ≡ all.ref_ptr.0
  pub place : list.ref_ptr.1 ≡ all.ref_ptr.1 + 4 * from
