-- Taken apart and put together again: the same 13 bits, so that a cell of what a lookup answers is the cell of what is shown.
use Prim.Native.Nat.{ℕ, ◌+◌, ◌/◌, ◌%◌, ◌<◌, ◌*◌}
use mathlib.Core.Bool.{Bool, true, false}
use mathlib.Core.Logic.{inl, inr}
use mathlib.Core.Path.{◌≡◌, ◌∙◌, ap}
use native.Mathlib.Omega.{arith}
use borrow.Author.Tests.{eqb-true, eqb-false}
use lib.Dec.{eqb}
use lib.Pow.{field}
use Rattle.buffers.specs.Bits.{bits}
use Rattle.buffers.specs.Pick.{pick}
use Rattle.buffers.proofs.Split.{true_or_false}
use Rattle.colours.specs.Apart.{apart_of, both_of}
use Rattle.colours.specs.declared.apart.Apart.{Apart}

pub both_below : (a : Apart) → both_of a < 8192
both_below a = go a.supremacy
  where
    go : (t : Bool) → pick t 4096 0 + a.colour % 4096 < 8192
    go true = omega arith
    go false = omega arith

pub both_apart : (held : ℕ) → both_of (apart_of held) ≡ bits 12 0 held
both_apart held =
    elim (true_or_false (eqb (held / 4096 % 2) 1)) [
      | inl e ↦
          let on : held / 4096 % 2 ≡ 1 = eqb-true _ _ e in
          rw e (omega arith)
      | inr e ↦
          let off : held / 4096 % 2 ≡ 1 → ⊥ = eqb-false _ _ e in
          let none : held / 4096 % 2 ≡ 0 = omega arith in
          rw e (omega arith)
    ]

-- What is above the 13 bits plays no part.
pub apart_low : (held : ℕ) → apart_of held ≡ apart_of (bits 12 0 held)
apart_low held =
    let low : held % 4096 ≡ held % 8192 % 4096 = omega arith in
    let high : held / 4096 % 2 ≡ held % 8192 / 4096 % 2 = omega (arith, field held 1 12) in
    rw (low, high)

-- A cell of 13 bits taken apart.
pub cell_apart : (code shown : ℕ) → shown < 8192 → code * 8192 + both_of (apart_of shown) ≡ code * 8192 + shown
cell_apart code shown below = ap (λ (b : ℕ). code * 8192 + b) (both_apart shown ∙ omega arith)
