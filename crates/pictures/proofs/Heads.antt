-- A head is whole exactly behind the bytes of a right head: its white, its digits and its last byte lead there, and nothing else does.
use Prim.Native.Nat.{ℕ, ◌+◌, ◌-◌, ◌<◌, ◌≤◌}
use mathlib.Core.Bool.{true, false, ◌&&◌}
use mathlib.Core.List.{List, [], ◌∷◌, ◌++◌, append_assoc}
use mathlib.Core.Logic.{◌↔◌, inl, inr}
use mathlib.Core.Path.{◌≡◌, refl, ◌∙◌, ap}
use native.Mathlib.Omega.{arith}
use borrow.Author.Tests.{eqb-true, eq-eqb, ne_eqb, leb-true, lt-leb, lt-ltb, not-true}
use lib.Dec.{eqb, leb}
use lib.ListN.{length}
use Rattle.std.proofs.lemmas.Bool.{and_parts, or_cases}
use Rattle.pictures.specs.Each.{each}
use Rattle.pictures.specs.Head.{is_white, is_digit, in_line, Piece, blank, comment, right_piece, spelled_piece, spelled}
use Rattle.pictures.specs.Head.{Numbered, RightHead}
use Rattle.pictures.specs.HeadNext.{with_digit, number_asked, head_next, head_behind}
use Rattle.pictures.specs.declared.head.Head.{Head}
use Rattle.pictures.specs.declared.head.Head.TheVariants.{Empty, Kind, White, Comment, Number, Whole}
use Rattle.pictures.proofs.Digits.{capped_behind, capped_says}
use Rattle.pictures.proofs.HeadRead.{asked_most, read_behind}

-- A white byte is below every digit, and begins no comment.
white_alone : (b : ℕ) → is_white b ≡ true → (is_digit b ≡ false) × (eqb b 35 ≡ false)
white_alone b e =
    let low : b < 33 = elim (or_cases (eqb b 32) (leb 9 b && leb b 13) e) [
      | inl s ↦ omega (arith, eqb-true b 32 s)
      | inr s ↦ omega (arith, leb-true b 13 (and_parts (leb 9 b) (leb b 13) s).1)
    ] in
    (rw (lt-leb 48 b (omega (arith, low))), ne_eqb b 35 (λ q. omega (arith, low, q)))

module _ (n v : ℕ) where
  abbrev after : Head → List ℕ → Head
  after h bytes = head_behind n v h bytes

  by_first : (h next : Head) (b : ℕ) (rest : List ℕ) → head_next n v h b ≡ next → after h (b ∷ rest) ≡ after next rest
  unfolding head_behind
  by_first h next b rest e = ap (λ (g : Head). after g rest) e

  -- A head that takes white before number k next.
  record Opens (h : Head) (k : ℕ) : Type 0 where
    by_blank : (b : ℕ) → is_white b ≡ true → head_next n v h b ≡ White k
    by_comment : head_next n v h 35 ≡ Comment k

  kind_opens : Opens Kind 0
  kind_opens = record { by_blank = λ b e. rw ((white_alone b e).1, e); by_comment = refl }

  white_opens : (k : ℕ) → Opens (White k) k
  white_opens k = record { by_blank = λ b e. rw ((white_alone b e).0, (white_alone b e).1, e); by_comment = refl }

  number_opens : (k : ℕ) → k < 2 → Opens (Number k (number_asked n v k)) (k + 1)
  number_opens k h = record {
    by_blank = λ b e. rw ((white_alone b e).0, eq-eqb (number_asked n v k) (number_asked n v k) refl, lt-ltb k 2 h, (white_alone b e).1, e);
    by_comment = rw (eq-eqb (number_asked n v k) (number_asked n v k) refl, lt-ltb k 2 h);
  }

  -- A comment, a piece of white, some pieces, some digits: each leads on.
  comment_run : (k : ℕ) (text rest : List ℕ) → each in_line text ≡ true → after (Comment k) (text ++ (10 ∷ rest)) ≡ after (White k) rest
  unfolding each head_behind
  comment_run k [] rest h = refl
  comment_run k (t ∷ ts) rest h =
      let both = and_parts (in_line t) (each in_line ts) h in
      let goes_on : head_next n v (Comment k) t ≡ Comment k = rw (not-true (eqb t 10) both.0) in
      by_first (Comment k) (Comment k) t (ts ++ (10 ∷ rest)) goes_on ∙ comment_run k ts rest both.1

  piece_run : (h : Head) (k : ℕ) (p : Piece) (rest : List ℕ) → Opens h k → right_piece p ≡ true → after h (spelled_piece p ++ rest) ≡ after (White k) rest
  piece_run h k (blank b) rest o e = by_first h (White k) b rest (o.by_blank b e)
  piece_run h k (comment text) rest o e =
      by_first h (Comment k) 35 (text ++ (10 ∷ []) ++ rest) o.by_comment ∙ ap (after (Comment k)) (append_assoc text (10 ∷ []) rest)
      ∙ comment_run k text rest e

  -- The first of some pieces,
  first_run : (h : Head) (k : ℕ) (p : Piece) (ps : List Piece) (rest : List ℕ) → Opens h k → right_piece p ≡ true
      → after h (spelled (p ∷ ps) ++ rest) ≡ after (White k) (spelled ps ++ rest)
  unfolding spelled
  first_run h k p ps rest o e = rw (append_assoc (spelled_piece p) (spelled ps) rest) (piece_run h k p (spelled ps ++ rest) o e)

  -- any number of them behind white, and some behind what takes white next.
  white_run : (k : ℕ) (ps : List Piece) (rest : List ℕ) → each right_piece ps ≡ true → after (White k) (spelled ps ++ rest) ≡ after (White k) rest
  unfolding each spelled
  white_run k [] rest e = refl
  white_run k (p ∷ ps) rest e =
      let both = and_parts (right_piece p) (each right_piece ps) e in
      first_run (White k) k p ps rest (white_opens k) both.0 ∙ white_run k ps rest both.1

  some_white_run : (h : Head) (k : ℕ) (ps : List Piece) (rest : List ℕ) → Opens h k → 1 ≤ length ps → each right_piece ps ≡ true
      → after h (spelled ps ++ rest) ≡ after (White k) rest
  unfolding each
  some_white_run h k [] rest o some e = absurd (omega (arith, some))
  some_white_run h k (p ∷ ps) rest o some e =
      let both = and_parts (right_piece p) (each right_piece ps) e in
      first_run h k p ps rest o both.0 ∙ white_run k ps rest both.1

  digits_run : (k m : ℕ) (ds rest : List ℕ) → each is_digit ds ≡ true → after (Number k m) (ds ++ rest) ≡ after (Number k (capped_behind m ds)) rest
  unfolding each head_behind capped_behind
  digits_run k m [] rest e = refl
  digits_run k m (d ∷ ds) rest e =
      let both = and_parts (is_digit d) (each is_digit ds) e in
      let next = Number k (with_digit m (d - 48)) in
      by_first (Number k m) next d (ds ++ rest) (rw both.0) ∙ digits_run k (with_digit m (d - 48)) ds rest both.1

  some_digits_run : (k : ℕ) (ds rest : List ℕ) → 1 ≤ length ds → each is_digit ds ≡ true
      → after (White k) (ds ++ rest) ≡ after (Number k (capped_behind 0 ds)) rest
  unfolding each head_behind capped_behind
  some_digits_run k [] rest some e = absurd (omega (arith, some))
  some_digits_run k (d ∷ ds) rest some e =
      let both = and_parts (is_digit d) (each is_digit ds) e in
      let next = Number k (with_digit 0 (d - 48)) in
      by_first (White k) next d (ds ++ rest) (rw both.0) ∙ digits_run k (with_digit 0 (d - 48)) ds rest both.1

  module _ (wide : n ≤ 65535) (high : v ≤ 65535) where
    number_run : (h : Head) (k : ℕ) (part rest : List ℕ) → Opens h k → Numbered (number_asked n v k) part
        → after h (part ++ rest) ≡ after (Number k (number_asked n v k)) rest
    number_run h k part rest o i =
        let w = spelled i.white in
        let ds = i.digits in
        ap (λ (l : List ℕ). after h (l ++ rest)) i.is ∙ ap (after h) (append_assoc w ds rest)
        ∙ some_white_run h k i.white (ds ++ rest) o i.some_white i.are_white
        ∙ some_digits_run k ds rest i.some_digits i.are_digits
        ∙ ap (λ (m : ℕ). after (Number k m) rest) ((capped_says (number_asked n v k) 0 ds (asked_most n v wide high k)).1 i.says)

    right_whole : (bytes : List ℕ) → RightHead n v bytes → after Empty bytes ≡ Whole
    unfolding head_behind
    right_whole bytes r =
        let behind_height = r.greatest ++ (r.last ∷ []) in
        let last : head_next n v (Number 2 255) r.last ≡ Whole = rw ((white_alone r.last r.last_is).0, r.last_is) in
        ap (after Empty) r.is
        ∙ number_run Kind 0 r.width (r.height ++ behind_height) kind_opens r.width_is
        ∙ number_run (Number 0 n) 1 r.height behind_height (number_opens 0 (omega arith)) r.height_is
        ∙ number_run (Number 1 v) 2 r.greatest (r.last ∷ []) (number_opens 1 (omega arith)) r.greatest_is
        ∙ last

    -- The bytes that were read are a right head exactly where the head is whole.
    pub head_exactly : (bytes : List ℕ) → (head_behind n v Empty bytes ≡ Whole) ↔ RightHead n v bytes
    head_exactly bytes = (λ e. rw e at (read_behind n v wide high Empty bytes [] refl), right_whole bytes)
