-- The small plate as a file, and the text that the paper prints for it.
use Rattle.std.specs.Prelude.{ℕ, List, [], ◌∷◌, ◌++◌}
use Prim.Native.Char.{code}
use Prim.Native.String.{String}
use Rattle.registers.specs.Small.{small_words}
use Rattle.plates.specs.Plate.{plate_of}
use Rattle.claims.specs.Marked.{small_video}

-- 30 register words, one video word, no cursor, no sound.
abbrev pub small_plate : List ℕ
small_plate = plate_of small_words small_video [] []

-- A text as bytes.
abbrev pub bytes : String → List ℕ
bytes String.[] = []
bytes (String.◌∷◌ c s) = code c ∷ bytes s

-- The head, and a line for each of the six rasters.
abbrev pub small_text : List ℕ
small_text =
    bytes "frame 32 6 words 1 marks 0\n"
    ++ bytes "3x4 2x28\n"
    ++ bytes "1x4 0x28\n"
    ++ bytes "1x4 0x3 4x16 0x9\n"
    ++ bytes "1x4 0x3 4x4 5x8 4x4 0x9\n"
    ++ bytes "1x4 0x3 4x16 0x9\n"
    ++ bytes "1x4 0x28\n"
