-- A picture's bytes read back into colours. They are right where every byte is 17 times a 4-bit gun, they are a whole number of threes, and
-- the lent colours have room for them; then their colours stand in the first places, and all else is as it was.
use Rattle.std.specs.Prelude.{ℕ, ◌+◌, ◌*◌, ◌/◌, ◌%◌, Bool, ◌&&◌, List, leb, eqb, length, get_or}
use Rattle.buffers.specs.Painted.{painted}
use Rattle.buffers.specs.Pick.{pick}
use Rattle.pictures.specs.Each.{each}

-- A byte is at most 255, so that a multiple of 17 is 17 times a number of 4 bits.
abbrev pub is_gun : ℕ → Bool
is_gun byte = eqb (byte % 17) 0

-- The colour of a red, a green and a blue byte,
abbrev pub colour_read : ℕ → ℕ → ℕ → ℕ
colour_read r g b = r / 17 + 16 * (g / 17) + 256 * (b / 17)

-- and that of the k-th three.
abbrev pub colour_read_at : List ℕ → ℕ → ℕ
colour_read_at bytes k = colour_read (get_or bytes (3 * k) 0) (get_or bytes (3 * k + 1) 0) (get_or bytes (3 * k + 2) 0)

abbrev pub read_right : List ℕ → ℕ → Bool
read_right bytes room = each is_gun bytes && eqb (length bytes % 3) 0 && leb (length bytes / 3) room

-- What the lent colours hold after the call.
abbrev pub read_leaves : List ℕ → List ℕ → List ℕ
read_leaves bytes out = pick (read_right bytes (length out)) (painted out 0 (length bytes / 3) (colour_read_at bytes)) out
