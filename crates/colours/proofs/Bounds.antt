-- Colours have 13 bits and greys 8: each is put together of bits that lie below.
use Prim.Native.Nat.{ℕ, ◌<◌, ◌≤◌}
use mathlib.Core.Bool.{Bool, true, false}
use native.Mathlib.Omega.{arith}
use lib.Dec.{eqb}
use Rattle.buffers.specs.Pick.{pick}
use Rattle.registers.specs.Colours.{palette_of}
use Rattle.registers.specs.declared.record.Registers.{Registers}
use Rattle.colours.specs.Colour.{mixed, shown_of, colour_of}
use Rattle.colours.specs.Grey.{grey_of}

pub picked_below : (t : Bool) {a b m : ℕ} → a < m → b < m → pick t a b < m
picked_below true ha hb = ha
picked_below false ha hb = hb

mixed_below : (e p : ℕ) → mixed e p < 8192
mixed_below e p = omega arith

pub shown_below : (e d p : ℕ) → shown_of e d p < 8192
shown_below e d p = picked_below (eqb d 8) (mixed_below e p) (omega arith)

pub colour_below : (g : Registers) (d p : ℕ) → colour_of g d p < 8192
colour_below g d p = shown_below (palette_of g p) d p

pub grey_most : (c : ℕ) → grey_of c ≤ 255
grey_most c = omega arith
