-- A colour's parts: three guns of four bits, and supremacy.
use Rattle.std.specs.Prelude.{ℕ}
use Rattle.buffers.specs.Bits.{bits}

abbrev pub red_gun : ℕ → ℕ
red_gun colour = bits 3 0 colour

abbrev pub green_gun : ℕ → ℕ
green_gun colour = bits 7 4 colour

abbrev pub blue_gun : ℕ → ℕ
blue_gun colour = bits 11 8 colour

abbrev pub supremacy_of : ℕ → ℕ
supremacy_of colour = bits 12 12 colour
