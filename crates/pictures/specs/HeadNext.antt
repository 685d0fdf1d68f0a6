-- A head taken byte by byte. That it is whole exactly behind the bytes of a right head is a theorem (`proofs/Heads`).
use Rattle.std.specs.Prelude.{ℕ, ◌+◌, ◌-◌, ◌*◌, Bool, true, false, List, [], ◌∷◌, ltb, eqb}
use Rattle.buffers.specs.Pick.{pick}
use Rattle.pictures.specs.Head.{is_white, is_digit}
use Rattle.pictures.specs.declared.head.Head.{Head}
use Rattle.pictures.specs.declared.head.Head.TheVariants.{Empty, Letter, Kind, White, Comment, Number, Whole, Wrong}

-- A number past 65,535 is larger than any that is asked for, and stays as it is.
abbrev pub with_digit : ℕ → ℕ → ℕ
with_digit m d = pick (ltb 65535 m) m (10 * m + d)

-- The three numbers of a picture of n x v.
abbrev pub number_asked : ℕ → ℕ → ℕ → ℕ
number_asked n v k = pick (eqb k 0) n (pick (eqb k 1) v 255)

-- A byte of white, or the first of a comment, before number k,
abbrev pub white_next : ℕ → ℕ → Head
white_next k byte = pick (eqb byte 35) (Comment k) (pick (is_white byte) (White k) Wrong)

-- and the first byte behind it, which is white before the next, or the last of all.
abbrev pub behind_next : ℕ → ℕ → Head
behind_next k byte = pick (ltb k 2) (white_next (k + 1) byte) (pick (is_white byte) Whole Wrong)

-- With a byte more, of a picture of n x v.
abbrev pub head_next : ℕ → ℕ → Head → ℕ → Head
head_next n v Empty byte = pick (eqb byte 80) Letter Wrong
head_next n v Letter byte = pick (eqb byte 54) Kind Wrong
head_next n v Kind byte = white_next 0 byte
head_next n v (White k) byte = pick (is_digit byte) (Number k (with_digit 0 (byte - 48))) (white_next k byte)
head_next n v (Comment k) byte = pick (eqb byte 10) (White k) (Comment k)
head_next n v (Number k m) byte =
    pick (is_digit byte) (Number k (with_digit m (byte - 48))) (pick (eqb m (number_asked n v k)) (behind_next k byte) Wrong)
head_next n v Whole byte = Wrong
head_next n v Wrong byte = Wrong

-- With all of some bytes more.
unfoldable pub head_behind : ℕ → ℕ → Head → List ℕ → Head
head_behind n v h [] = h
head_behind n v h (b ∷ bs) = head_behind n v (head_next n v h b) bs

abbrev pub whole_head : Head → Bool
whole_head Empty = false
whole_head Letter = false
whole_head Kind = false
whole_head (White k) = false
whole_head (Comment k) = false
whole_head (Number k m) = false
whole_head Whole = true
whole_head Wrong = false

abbrev pub open_head : Head → Bool
open_head Empty = true
open_head Letter = true
open_head Kind = true
open_head (White k) = true
open_head (Comment k) = true
open_head (Number k m) = true
open_head Whole = false
open_head Wrong = false
