-- Words of 32 bits and their bytes, lowest byte first.
use Rattle.std.specs.Prelude.{ℕ, ◌+◌, ◌*◌, ◌/◌, ◌%◌, ◌^◌, ◌<◌, List, [], ◌∷◌, get_or}

-- The word that four bytes make.
abbrev pub word : ℕ → ℕ → ℕ → ℕ → ℕ
word a b c d = a + b * 256 + c * 65536 + d * 16777216

-- The word whose first byte stands at a place.
abbrev pub word_at : List ℕ → ℕ → ℕ
word_at bytes at = word (get_or bytes at 0) (get_or bytes (at + 1) 0) (get_or bytes (at + 2) 0) (get_or bytes (at + 3) 0)

-- The words of a list of bytes; up to three bytes that are left over make none.
unfoldable pub words_of : List ℕ → List ℕ
words_of [] = []
words_of (a ∷ []) = []
words_of (a ∷ b ∷ []) = []
words_of (a ∷ b ∷ c ∷ []) = []
words_of (a ∷ b ∷ c ∷ d ∷ bytes) = word a b c d ∷ words_of bytes

-- The bytes of a list of words.
unfoldable pub bytes_of : List ℕ → List ℕ
bytes_of [] = []
bytes_of (w ∷ words) = w % 256 ∷ w / 256 % 256 ∷ w / 65536 % 256 ∷ w / 16777216 % 256 ∷ bytes_of words

-- Byte k of a list of words.
abbrev pub byte_of : List ℕ → ℕ → ℕ
byte_of words k = get_or words (k / 4) 0 / 2 ^ (8 * (k % 4)) % 256

-- Every number of a list is below n.
abbrev pub Below : ℕ → List ℕ → Type 0
Below n l = (i : ℕ) → get_or l i 0 < n
