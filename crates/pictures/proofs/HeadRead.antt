-- What was read of a head, by what it came to: number after number, piece after piece of white, digit after digit.
use Prim.Native.Nat.{ℕ, zero, suc, ◌+◌, ◌-◌, ◌<◌, ◌≤◌}
use mathlib.Core.Bool.{Bool, true, false}
use mathlib.Core.List.{List, [], ◌∷◌, ◌++◌, append_assoc, append-nil}
use mathlib.Core.Logic.{inl, inr}
use mathlib.Core.Path.{◌≡◌, refl, sym, ◌∙◌, ap}
use native.Mathlib.Omega.{arith}
use borrow.Author.Tests.{eqb-true, ltb-true, ltb-false}
use lib.Dec.{eqb, ltb}
use lib.ListN.{length, length-append}
use Rattle.buffers.specs.Pick.{pick}
use Rattle.std.proofs.lemmas.Bool.{and_from, and_parts, cases_Bool}
use Rattle.pictures.specs.Each.{each}
use Rattle.pictures.specs.Head.{is_white, is_digit, in_line, Piece, blank, comment, right_piece, spelled_piece, spelled}
use Rattle.pictures.specs.Head.{Numbered, RightHead}
use Rattle.pictures.specs.HeadNext.{with_digit, number_asked, white_next, behind_next, head_next, head_behind}
use Rattle.pictures.specs.declared.head.Head.{Head}
use Rattle.pictures.specs.declared.head.Head.TheVariants.{Empty, Letter, Kind, White, Comment, Number, Whole, Wrong}
use Rattle.pictures.proofs.Digits.{capped_behind, capped_more, capped_says}

-- One more at the end.
pub each_more : {A : Type 0} (test : A → Bool) (xs : List A) (x : A) → each test xs ≡ true → test x ≡ true → each test (xs ++ (x ∷ [])) ≡ true
unfolding each
each_more test [] x h e = and_from _ _ e refl
each_more test (y ∷ ys) x h e =
    let both = and_parts (test y) (each test ys) h in
    and_from _ _ both.0 (each_more test ys x both.1 e)

pub spelled_more : (ps : List Piece) (p : Piece) → spelled (ps ++ (p ∷ [])) ≡ spelled ps ++ spelled_piece p
unfolding spelled
spelled_more [] p = append-nil (spelled_piece p)
spelled_more (q ∷ ps) p = ap (λ (l : List ℕ). spelled_piece q ++ l) (spelled_more ps p) ∙ sym (append_assoc (spelled_piece q) (spelled ps) (spelled_piece p))

byte_more : (read start w x : List ℕ) (b : ℕ) → read ≡ start ++ (w ++ x) → read ++ (b ∷ []) ≡ start ++ (w ++ (x ++ (b ∷ [])))
byte_more read start w x b e =
    ap (λ (l : List ℕ). l ++ (b ∷ [])) e ∙ append_assoc start (w ++ x) (b ∷ []) ∙ ap (λ (l : List ℕ). start ++ l) (append_assoc w x (b ∷ []))

more_some : {A : Type 0} (xs : List A) (x : A) → 1 ≤ length (xs ++ (x ∷ []))
more_some xs x = omega (arith, length-append xs (x ∷ []))

-- Some bytes, and a number behind them.
pub record Behind (Start : List ℕ → Type 0) (number : ℕ) (read : List ℕ) : Type 0 where
  pub start : List ℕ
  pub part : List ℕ
  pub started : Start start
  pub numbered : Numbered number part
  pub is : read ≡ start ++ part

module _ (n v : ℕ) where
  -- `P6`, and all numbers before number k.
  abbrev pub Before : ℕ → List ℕ → Type 0
  Before zero read = read ≡ 80 ∷ 54 ∷ []
  Before (suc k) read = Behind (Before k) (number_asked n v k) read

  -- Those, then some white or none.
  pub record Led (k : ℕ) (start : List ℕ) (white : List Piece) : Type 0 where
    pub before : Before k start
    pub few : k ≤ 2
    pub are_white : each right_piece white ≡ true

  pub record InWhite (k : ℕ) (read : List ℕ) : Type 0 where
    pub start : List ℕ
    pub white : List Piece
    pub led : Led k start white
    pub some_white : 1 ≤ length white
    pub is : read ≡ start ++ spelled white

  pub record InComment (k : ℕ) (read : List ℕ) : Type 0 where
    pub start : List ℕ
    pub white : List Piece
    pub led : Led k start white
    pub text : List ℕ
    pub in_line_holds : each in_line text ≡ true
    pub is : read ≡ start ++ (spelled white ++ (35 ∷ text))

  pub record InNumber (k m : ℕ) (read : List ℕ) : Type 0 where
    pub start : List ℕ
    pub white : List Piece
    pub led : Led k start white
    pub some_white : 1 ≤ length white
    pub digits : List ℕ
    pub some_digits : 1 ≤ length digits
    pub are_digits : each is_digit digits ≡ true
    pub capped : m ≡ capped_behind 0 digits
    pub is : read ≡ start ++ (spelled white ++ digits)

  abbrev pub Read : Head → List ℕ → Type 0
  Read Empty read = read ≡ []
  Read Letter read = read ≡ 80 ∷ []
  Read Kind read = read ≡ 80 ∷ 54 ∷ []
  Read (White k) read = InWhite k read
  Read (Comment k) read = InComment k read
  Read (Number k m) read = InNumber k m read
  Read Whole read = RightHead n v read
  Read Wrong read = Unit {0}

  led_more : (k : ℕ) (start : List ℕ) (white : List Piece) (p : Piece) → Led k start white → right_piece p ≡ true → Led k start (white ++ (p ∷ []))
  led_more k start white p led e = record {
    before = led.before;
    few = led.few;
    are_white = each_more right_piece white p led.are_white e;
  }

  -- White, or a comment begun, behind those.
  white_next_holds : (k b : ℕ) (start : List ℕ) (white : List Piece) → Led k start white → Read (white_next k b) (start ++ spelled white ++ (b ∷ []))
  unfolding each
  white_next_holds k b start white led =
      let joined = append_assoc start (spelled white) (b ∷ []) in
      elim (cases_Bool (eqb b 35)) [
        | inl e ↦
            rw e (record {
              start = start;
              white = white;
              led = led;
              text = [];
              in_line_holds = refl;
              is = joined ∙ ap (λ (c : ℕ). start ++ (spelled white ++ (c ∷ []))) (eqb-true b 35 e);
            })
        | inr e ↦
            elim (cases_Bool (is_white b)) [
              | inl f ↦
                  rw (e, f) (record {
                    start = start;
                    white = white ++ (blank b ∷ []);
                    led = led_more k start white (blank b) led f;
                    some_white = more_some white (blank b);
                    is = joined ∙ ap (λ (l : List ℕ). start ++ l) (sym (spelled_more white (blank b)));
                  })
              | inr f ↦ rw (e, f) tt
            ]
      ]

  -- A number that is the one asked for, and all before it.
  number_behind : (k : ℕ) (read : List ℕ) (i : InNumber k (number_asked n v k) read) → number_asked n v k ≤ 65535 → Before (suc k) read
  number_behind k read i most = record {
    start = i.start;
    part = spelled i.white ++ i.digits;
    started = i.led.before;
    numbered = record {
      white = i.white;
      digits = i.digits;
      some_white = i.some_white;
      some_digits = i.some_digits;
      are_white = i.led.are_white;
      are_digits = i.are_digits;
      says = (capped_says (number_asked n v k) 0 i.digits most).0 (sym i.capped);
      is = refl;
    };
    is = i.is;
  }

  -- All three numbers, and the last byte.
  whole_behind : (read : List ℕ) (b : ℕ) → Before 3 read → is_white b ≡ true → RightHead n v (read ++ (b ∷ []))
  whole_behind read b greatest white =
      let height = greatest.started in
      let width = height.started in
      let w = width.part in
      let h = height.part in
      let g = greatest.part in
      record {
        width = w;
        height = h;
        greatest = g;
        last = b;
        width_is = width.numbered;
        height_is = height.numbered;
        greatest_is = greatest.numbered;
        last_is = white;
        is =
            rw (greatest.is, height.is, width.is, width.started)
            (append_assoc (80 ∷ 54 ∷ [] ++ w ++ h) g (b ∷ []) ∙ append_assoc (80 ∷ 54 ∷ [] ++ w) h (g ++ (b ∷ []))
            ∙ append_assoc (80 ∷ 54 ∷ []) w (h ++ (g ++ (b ∷ []))));
      }

  -- The byte behind number k: white before the next, or the last.
  behind_next_holds : (k b : ℕ) (read : List ℕ) → Before (suc k) read → k ≤ 2 → Read (behind_next k b) (read ++ (b ∷ []))
  unfolding each spelled
  behind_next_holds k b read before few =
      elim (cases_Bool (ltb k 2)) [
        | inl e ↦
            let more : k < 2 = ltb-true k 2 e in
            let next : k + 1 ≡ suc k = omega arith in
            let led : Led (suc k) read [] = record { before = before; few = omega (arith, more); are_white = refl } in
            rw (e, next) (rw (append-nil read) at (white_next_holds (suc k) b read [] led))
        | inr e ↦
            let last : k ≡ 2 = omega (arith, ltb-false k 2 e) in
            elim (cases_Bool (is_white b)) [
              | inl f ↦ rw (e, f) (whole_behind read b (rw last at before) f)
              | inr f ↦ rw (e, f) tt
            ]
      ]

  -- With a digit more, the first or a further one,
  digit_first : (k b : ℕ) (read : List ℕ) → InWhite k read → is_digit b ≡ true → InNumber k (with_digit 0 (b - 48)) (read ++ (b ∷ []))
  unfolding each capped_behind
  digit_first k b read i e = record {
    start = i.start;
    white = i.white;
    led = i.led;
    some_white = i.some_white;
    digits = b ∷ [];
    some_digits = omega arith;
    are_digits = and_from _ _ e refl;
    capped = refl;
    is = ap (λ (l : List ℕ). l ++ (b ∷ [])) i.is ∙ append_assoc i.start (spelled i.white) (b ∷ []);
  }

  digit_more : (k m b : ℕ) (read : List ℕ) → InNumber k m read → is_digit b ≡ true → InNumber k (with_digit m (b - 48)) (read ++ (b ∷ []))
  digit_more k m b read i e = record {
    start = i.start;
    white = i.white;
    led = i.led;
    some_white = i.some_white;
    digits = i.digits ++ (b ∷ []);
    some_digits = more_some i.digits b;
    are_digits = each_more is_digit i.digits b i.are_digits e;
    capped = ap (λ (x : ℕ). with_digit x (b - 48)) i.capped ∙ sym (capped_more 0 i.digits b);
    is = byte_more read i.start (spelled i.white) i.digits b i.is;
  }

  -- with a comment's end, or a byte more of it,
  comment_end : (k : ℕ) (read : List ℕ) → InComment k read → InWhite k (read ++ (10 ∷ []))
  comment_end k read i =
      let line = comment i.text in
      record {
        start = i.start;
        white = i.white ++ (line ∷ []);
        led = led_more k i.start i.white line i.led i.in_line_holds;
        some_white = more_some i.white line;
        is =
            byte_more read i.start (spelled i.white) (35 ∷ i.text) 10 i.is
            ∙ ap (λ (l : List ℕ). i.start ++ l) (sym (spelled_more i.white line));
      }

  comment_more : (k b : ℕ) (read : List ℕ) → InComment k read → eqb b 10 ≡ false → InComment k (read ++ (b ∷ []))
  comment_more k b read i e = record {
    start = i.start;
    white = i.white;
    led = i.led;
    text = i.text ++ (b ∷ []);
    in_line_holds = each_more in_line i.text b i.in_line_holds (rw e);
    is = byte_more read i.start (spelled i.white) (35 ∷ i.text) b i.is;
  }

  module _ (wide : n ≤ 65535) (high : v ≤ 65535) where
    pub asked_most : (k : ℕ) → number_asked n v k ≤ 65535
    asked_most k = go (eqb k 0) (eqb k 1)
      where
        go : (one two : Bool) → pick one n (pick two v 255) ≤ 65535
        go true two = wide
        go false true = high
        go false false = omega arith

    -- with the byte behind a number, which is the one asked for,
    number_next : (k m b : ℕ) (read : List ℕ) → InNumber k m read → Read (pick (eqb m (number_asked n v k)) (behind_next k b) Wrong) (read ++ (b ∷ []))
    number_next k m b read i =
        elim (cases_Bool (eqb m (number_asked n v k))) [
          | inl e ↦ rw e (behind_next_holds k b read (number_behind k read (rw (eqb-true m (number_asked n v k) e) at i) (asked_most k)) i.led.few)
          | inr e ↦ rw e tt
        ]

    -- with any byte more.
    pub read_next : (h : Head) (b : ℕ) (read : List ℕ) → Read h read → Read (head_next n v h b) (read ++ (b ∷ []))
    unfolding each spelled
    read_next Empty b read i =
        elim (cases_Bool (eqb b 80)) [ inl e ↦ rw e (rw (i, eqb-true b 80 e)) | inr e ↦ rw e tt ]
    read_next Letter b read i =
        elim (cases_Bool (eqb b 54)) [ inl e ↦ rw e (rw (i, eqb-true b 54 e)) | inr e ↦ rw e tt ]
    read_next Kind b read i =
        rw (append-nil read) at (white_next_holds 0 b read [] (record { before = i; few = omega arith; are_white = refl }))
    read_next (White k) b read i =
        elim (cases_Bool (is_digit b)) [
          | inl e ↦ rw e (digit_first k b read i e)
          | inr e ↦ rw (e, i.is) (white_next_holds k b i.start i.white i.led)
        ]
    read_next (Comment k) b read i =
        elim (cases_Bool (eqb b 10)) [
          | inl e ↦ rw (e, eqb-true b 10 e) (comment_end k read i)
          | inr e ↦ rw e (comment_more k b read i e)
        ]
    read_next (Number k m) b read i =
        elim (cases_Bool (is_digit b)) [ inl e ↦ rw e (digit_more k m b read i e) | inr e ↦ rw e (number_next k m b read i) ]
    read_next Whole b read i = tt
    read_next Wrong b read i = tt

    pub read_behind : (h : Head) (bytes read : List ℕ) → Read h read → Read (head_behind n v h bytes) (read ++ bytes)
    unfolding head_behind
    read_behind h [] read i = rw (append-nil read) i
    read_behind h (b ∷ bs) read i = rw (append_assoc read (b ∷ []) bs) at (read_behind (head_next n v h b) bs (read ++ (b ∷ [])) (read_next h b read i))
