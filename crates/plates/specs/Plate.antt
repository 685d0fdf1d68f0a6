-- The plate file: four sections of words one after another, and behind them the trailer that says where each begins.
use Rattle.std.specs.Prelude.{ℕ, ◌+◌, ◌*◌, ◌-◌, Bool, ◌&&◌, List, [], ◌∷◌, ◌++◌, length, leb, eqb}
use Rattle.buffers.specs.Words.{word_at, bytes_of}
use Rattle.plates.specs.declared.Sections.{Sections}

abbrev pub most_bytes : ℕ
most_bytes = 4194304

-- The trailer's four words: how many words before it each section begins.
abbrev pub r_of : List ℕ → ℕ
r_of file = word_at file (length file - 16)

abbrev pub v_of : List ℕ → ℕ
v_of file = word_at file (length file - 12)

abbrev pub c_of : List ℕ → ℕ
c_of file = word_at file (length file - 8)

abbrev pub s_of : List ℕ → ℕ
s_of file = word_at file (length file - 4)

-- 16 ≤ length ≤ 4,194,304.
abbrev pub length_rule : ℕ → Bool
length_rule n = leb 16 n && leb n most_bytes

-- No section begins before the one ahead of it, and the first begins the file.
abbrev pub trailer_rule : ℕ → ℕ → ℕ → ℕ → ℕ → Bool
trailer_rule n r v c s = leb v r && leb c v && leb s c && eqb (4 * r + 16) n

abbrev pub right : List ℕ → Bool
right file = length_rule (length file) && trailer_rule (length file) (r_of file) (v_of file) (c_of file) (s_of file)

-- The byte at which each section and the trailer start, and the trailer.
abbrev pub sections_by : ℕ → ℕ → ℕ → ℕ → Sections
sections_by r v c s =
    record { registers = 0; video = 4 * (r - v); cursor = 4 * (r - c); sound = 4 * (r - s); trailer = 4 * r; r = r; v = v; c = c; s = s }

abbrev pub sections_of : List ℕ → Sections
sections_of file = sections_by (r_of file) (v_of file) (c_of file) (s_of file)

-- The trailer of four lists: S is the last list's length, and each distance before it that much more.
abbrev pub trailer_of : List ℕ → List ℕ → List ℕ → List ℕ → List ℕ
trailer_of rs vs cs ss =
    (length rs + (length vs + (length cs + length ss)))
    ∷ (length vs + (length cs + length ss))
    ∷ (length cs + length ss)
    ∷ length ss
    ∷ []

-- The plate of four lists: its words, the trailer last, as bytes.
unfoldable pub plate_of : List ℕ → List ℕ → List ℕ → List ℕ → List ℕ
plate_of rs vs cs ss = bytes_of (rs ++ vs ++ cs ++ ss ++ trailer_of rs vs cs ss)

-- How many bytes that plate has.
abbrev pub plate_length : List ℕ → List ℕ → List ℕ → List ℕ → ℕ
plate_length rs vs cs ss = 4 * (length rs + length vs + length cs + length ss) + 16
