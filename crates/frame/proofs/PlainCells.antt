-- The rule with no cursor, region by region of an accepted setting: sync, blank, border, display, each by the tests that make its code.
use Prim.Native.Nat.{ℕ, ◌+◌, ◌<◌, ◌≤◌}
use mathlib.Core.Path.{◌≡◌}
use mathlib.Core.List.{List}
use mathlib.Core.Logic.{inl, inr}
use borrow.Author.Tests.{lt-ltb, le-ltb}
use lib.ListN.{get_or}
use Rattle.buffers.proofs.Split.{lt_or_le, is_false}
use Rattle.registers.specs.declared.setting.Setting.{Setting}
use Rattle.registers.specs.inner.Accepted.{Accepted}
use Rattle.cells.specs.Cell.{in_display, in_border, plain_code}
use Rattle.cells.specs.inner.Region.{InDisplay, InBorder}
use Rattle.cells.proofs.Regions.{border_inside, inside_border, display_inside, inside_display, display_bordered, border_shown}
use Rattle.frame.specs.inner.Ink.{display_ink, plain_ink, blank_of}

module _ (s : Setting) (pens table video : List ℕ) (x y : ℕ) where
  pub sync_ink : x < s.hs.0 → plain_ink s pens table video y x ≡ blank_of s y + 8192
  unfolding plain_ink plain_code
  sync_ink h =
      elim (lt_or_le y s.vs.0) [
        | inl g ↦ rw (lt-ltb x s.hs.0 h, lt-ltb y s.vs.0 g)
        | inr g ↦ rw (lt-ltb x s.hs.0 h, le-ltb y s.vs.0 g)
      ]

  pub blank_ink : Accepted s → s.hs.0 ≤ x → (InBorder s x y → ⊥) → plain_ink s pens table video y x ≡ blank_of s y
  unfolding plain_ink plain_code
  blank_ink r h out =
      let b = is_false (in_border s x y) (λ e. out (border_inside s x y e)) in
      let d = is_false (in_display s x y) (λ e. out (display_bordered s r x y (display_inside s x y e))) in
      elim (lt_or_le y s.vs.0) [
        | inl g ↦ rw (le-ltb x s.hs.0 h, lt-ltb y s.vs.0 g)
        | inr g ↦ rw (le-ltb x s.hs.0 h, le-ltb y s.vs.0 g, b, d)
      ]

  pub border_ink : Accepted s → InBorder s x y
      → (InDisplay s x y → ⊥) → plain_ink s pens table video y x ≡ get_or pens 0 0
  unfolding plain_ink plain_code
  border_ink r i out =
      let d = is_false (in_display s x y) (λ e. out (display_inside s x y e)) in
      let o = border_shown s r x y i in
      rw (le-ltb x s.hs.0 o.0, le-ltb y s.vs.0 o.1, d, inside_border s x y i)

  pub display_ink_holds : Accepted s → InDisplay s x y → plain_ink s pens table video y x ≡ display_ink s table video y x
  unfolding plain_ink plain_code
  display_ink_holds r i =
      let o = border_shown s r x y (display_bordered s r x y i) in
      rw (le-ltb x s.hs.0 o.0, le-ltb y s.vs.0 o.1, inside_display s x y i)
