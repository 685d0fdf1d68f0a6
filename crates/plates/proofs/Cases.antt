-- The small plate as a file: 140 bytes, trailer 31, 1, 0, 0, and its round trip, computed.
use mathlib.Core.Path.{◌≡◌, refl}
use mathlib.Core.List.{List, [], ◌∷◌, ◌++◌}
use Prim.Native.Nat.{ℕ}
use lib.ListN.{length}
use Rattle.buffers.specs.Words.{words_of, bytes_of}
use Rattle.registers.specs.Small.{small_words}
use Rattle.refusals.specs.Table.{given}
use Rattle.plates.specs.Plate.{trailer_of, plate_of}
use Rattle.plates.specs.Read.{read_told, copied}
use Rattle.plates.specs.Write.{write_told}

-- 30 register words, video word 76543210H, no cursor, no sound
abbrev pub small_plate : List ℕ
small_plate = plate_of small_words (0x76543210 ∷ []) [] []

pub small_length : length small_plate ≡ 140
unfolding plate_of bytes_of
small_length = refl

pub small_trailer : trailer_of small_words (0x76543210 ∷ []) [] [] ≡ 31 ∷ 1 ∷ 0 ∷ 0 ∷ []
small_trailer = refl

pub small_written : write_told small_words (0x76543210 ∷ []) [] [] 140 ≡ given 140
unfolding write_told
small_written = refl

pub small_read : read_told small_plate ≡ given record { registers = 0; video = 120; cursor = 124; sound = 124; trailer = 124; r = 31; v = 1; c = 0; s = 0 }
unfolding read_told plate_of bytes_of
small_read = refl

pub small_copied : copied small_plate ≡ small_words ++ 0x76543210 ∷ []
unfolding words_of plate_of bytes_of
small_copied = refl
