-- A pixel's entry among the sixteen: it stands at the pixel's low nibble.
use Prim.Native.Nat.{ℕ, ◌%◌}
use mathlib.Core.Path.{◌≡◌, ap, ◌∙◌}
use mathlib.Core.List.{List}
use native.Mathlib.Omega.{arith}
use lib.ListN.{get_or}
use Rattle.buffers.proofs.Values.{get_d_values}
use Rattle.registers.specs.Colours.{palette_of, colour_in}
use Rattle.registers.specs.declared.record.Registers.{Registers}
use Rattle.colours.specs.Colour.{entries_of}

pub entry_of : (g : Registers) (list : List ℕ) (p : ℕ) → list ≡ entries_of g → get_or list (p % 16) 0 ≡ palette_of g p
unfolding entries_of
entry_of g list p e =
    ap (λ (l : List ℕ). get_or l (p % 16) 0) e
    ∙ get_d_values (palette_of g) 0 16 (p % 16) (omega arith)
    ∙ ap (λ (i : ℕ). colour_in g i) (omega arith)
