-- Registers at fault, group by group, as the functions that look for the lowest have them. No public promise reaches these.
use Rattle.std.specs.Prelude.{ℕ, Bool, false, ◌&&◌, not, List, eqb, get_or}
use Rattle.buffers.specs.Bits.{bits}
use Rattle.registers.specs.Addresses.{STEREO}
use Rattle.registers.specs.Needed.{among}

-- Unwritten, of the slots from that of the first address to that of the last.
abbrev pub unwritten_among : List Bool → ℕ → ℕ → ℕ → Bool
unwritten_among written first last slot = among first last slot && not (get_or written slot false)

-- A stereo value 0.
abbrev pub zero_stereo : List ℕ → ℕ → Bool
zero_stereo values slot = among (STEREO 7) (STEREO 6) slot && eqb (bits 2 0 (get_or values slot 0)) 0
