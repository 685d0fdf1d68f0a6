-- What a right head of a binary PPM file is: `P6`, then width, height and greatest value, white before each, and one white byte.
use Rattle.std.specs.Prelude.{ℕ, ◌+◌, ◌-◌, ◌*◌, ◌≤◌, Bool, true, ◌&&◌, ◌||◌, not, List, [], ◌∷◌, ◌++◌, ◌≡◌, leb, eqb, length}
use Rattle.pictures.specs.Each.{each}

-- Bytes: space and those from tab to carriage return; digits; all that do not end a line.
abbrev pub is_white : ℕ → Bool
is_white byte = eqb byte 32 || (leb 9 byte && leb byte 13)

abbrev pub is_digit : ℕ → Bool
is_digit byte = leb 48 byte && leb byte 57

abbrev pub in_line : ℕ → Bool
in_line byte = not (eqb byte 10)

-- White: a byte of it, or a comment, which goes from # to the end of its line.
pub data Piece : Type 0 where
  blank : ℕ → Piece
  comment : List ℕ → Piece

abbrev pub right_piece : Piece → Bool
right_piece (blank byte) = is_white byte
right_piece (comment text) = each in_line text

abbrev pub spelled_piece : Piece → List ℕ
spelled_piece (blank byte) = byte ∷ []
spelled_piece (comment text) = 35 ∷ (text ++ (10 ∷ []))

unfoldable pub spelled : List Piece → List ℕ
spelled [] = []
spelled (p ∷ ps) = spelled_piece p ++ spelled ps

-- What digits say, behind a number.
unfoldable pub said_behind : ℕ → List ℕ → ℕ
said_behind m [] = m
said_behind m (d ∷ ds) = said_behind (10 * m + (d - 48)) ds

-- Some white, and then some digits that say a number.
pub record Numbered (number : ℕ) (bytes : List ℕ) : Type 0 where
  pub white : List Piece
  pub digits : List ℕ
  pub some_white : 1 ≤ length white
  pub some_digits : 1 ≤ length digits
  pub are_white : each right_piece white ≡ true
  pub are_digits : each is_digit digits ≡ true
  pub says : said_behind 0 digits ≡ number
  pub is : bytes ≡ spelled white ++ digits

-- The head of a picture of n x v.
pub record RightHead (n v : ℕ) (bytes : List ℕ) : Type 0 where
  pub width : List ℕ
  pub height : List ℕ
  pub greatest : List ℕ
  pub last : ℕ
  pub width_is : Numbered n width
  pub height_is : Numbered v height
  pub greatest_is : Numbered 255 greatest
  pub last_is : is_white last ≡ true
  pub is : bytes ≡ 80 ∷ 54 ∷ (width ++ (height ++ (greatest ++ (last ∷ []))))
