-- What a frame shows of its video list: entries in use, the bits of them that a depth shows, positions left uncovered.
use Rattle.std.specs.Prelude.{ℕ, zero, suc, ◌/◌, ◌%◌, ◌^◌, ◌<◌, ◌≡◌, Bool, true, false, ◌&&◌, ◌||◌, not, List, ltb, eqb, take}
use Rattle.buffers.specs.Pick.{pick}
use Rattle.registers.specs.Control.{depth_of, entries_in_use}
use Rattle.registers.specs.Colours.{palette_of}
use Rattle.registers.specs.declared.record.Registers.{Registers}
use Rattle.registers.specs.declared.setting.Setting.{Setting}
use Rattle.cells.specs.Pixel.{logical}
use Rattle.cells.specs.Cell.{within, in_display, covered}
use Rattle.frame.specs.Frame.{cells}

-- Depth 1, 2, 4: all 13 bits of an entry are shown. Depth 8: its bits 12, 10-8, 5, 4, 2-0.
abbrev pub is_shown : ℕ → ℕ → Bool
is_shown d b = pick (eqb d 8) (eqb b 12 || within 8 11 b || within 4 6 b || ltb b 3) (ltb b 13)

abbrev pub bit_of : ℕ → ℕ → ℕ
bit_of c b = c / 2 ^ b % 2

-- A test holds of some number below n.
unfoldable pub any_below : (ℕ → Bool) → ℕ → Bool
any_below test zero = false
any_below test (suc n) = test n || any_below test n

-- Two entries differ in a bit that is shown at depth d.
unfoldable pub differ : ℕ → ℕ → ℕ → Bool
differ d c e = any_below (λ b. is_shown d b && not (eqb (bit_of c b) (bit_of e b))) 13

-- Entries in use at any two different places differ in a shown bit.
abbrev pub Distinct : Registers → Type 0
Distinct g =
    (i j : ℕ) → i < entries_in_use g → j < entries_in_use g → (i ≡ j → ⊥)
    → differ (depth_of g) (palette_of g i) (palette_of g j) ≡ true

-- Entries in use at two different places agree in all shown bits.
pub record Alike (g : Registers) (i j : ℕ) : Type 0 where
  pub i_used : i < entries_in_use g
  pub j_used : j < entries_in_use g
  pub places : i ≡ j → ⊥
  pub agree : differ (depth_of g) (palette_of g i) (palette_of g j) ≡ false

-- Some two entries are alike.
abbrev pub TwoAlike : Registers → Type 0
TwoAlike g = (i : ℕ) × (j : ℕ) × Alike g i j

-- A display position that the cursor leaves uncovered.
unfoldable pub uncovered : Setting → List ℕ → ℕ → ℕ → Bool
uncovered s cursor x y = in_display s x y && not (covered s cursor x y)

-- Two video lists give the same logical pixel at every such position.
abbrev pub SamePixels : Setting → List ℕ → List ℕ → List ℕ → Type 0
SamePixels s cursor video other = (x y : ℕ) → uncovered s cursor x y ≡ true → logical s video x y ≡ logical s other x y

-- The frame that lent memory holds: its first N·V cells.
abbrev pub frame_in : Setting → List ℕ → List ℕ
frame_in s out = take (cells s) out
