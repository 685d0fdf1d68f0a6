-- Colour and supremacy apart: the 13 bits that a palette entry and a cell hold lowest, as 12 and one, and those two together again.
use Rattle.std.specs.Prelude.{ℕ, ◌+◌, ◌^◌, eqb}
use Rattle.buffers.specs.Bits.{bits}
use Rattle.buffers.specs.Pick.{pick}
use Rattle.colours.specs.Guns.{supremacy_of}
use Rattle.colours.specs.declared.apart.Apart.{Apart}

abbrev pub apart_of : ℕ → Apart
apart_of held = record { colour = bits 11 0 held; supremacy = eqb (supremacy_of held) 1 }

abbrev pub both_of : Apart → ℕ
both_of a = pick a.supremacy (2 ^ 12) 0 + bits 11 0 a.colour
