-- A record and an account agree: what the record holds is what the account has not given yet, and their numbers are the same. Each call keeps that.
use Prim.Native.Nat.{ℕ, ◌+◌, ◌*◌, ◌-◌, ◌/◌, ◌%◌, ◌<◌, min}
use mathlib.Core.Bool.{false}
use mathlib.Core.List.{List, [], ◌∷◌, ◌++◌, append_assoc}
use mathlib.Core.Logic.{inl, inr}
use mathlib.Core.Path.{◌≡◌, refl, sym, ◌∙◌, ap}
use native.Mathlib.Nat.{mod-eq_of_lt}
use native.Mathlib.Omega.{arith}
use borrow.Author.Tests.{ltb-true, ltb-false, eqb-true, eqb-false}
use lib.Dec.{eqb, ltb}
use lib.ListN.{length, take, get_or, length-append, length-drop, take-append-drop, length-set}
use lib.Seq.{append_snoc, get_or-append_seam, length-take-le}
use Rattle.buffers.specs.Words.{bytes_of}
use Rattle.buffers.proofs.Split.{true_or_false}
use Rattle.buffers.proofs.Words.{length_bytes, bytes_append}
use Rattle.queues.specs.Queue.{queue_depth, around, fresh_of, is_full, is_empty, Fit, front_byte}
use Rattle.queues.specs.Steps.{behind, asked_by, byte_taken, with_word, without_byte, with_ask}
use Rattle.queues.specs.declared.Queue.{Queue}
use Rattle.queues.specs.declared.Ring.{Ring}
use Rattle.queues.proofs.Counts.{has_room_holds, some_held}
use Rattle.queues.proofs.Fits.{by_test, fresh_fit}
use Rattle.histories.specs.Calls.{read}
use Rattle.histories.specs.Account.{Account, opened, count_of, wholly, holds, next_byte, is_full_by, is_empty_by}
use Rattle.histories.specs.Account.{asked_at_end, asks_for, coming_with, with_loaded, with_given, with_asked}
use Rattle.histories.specs.Opens.{ring_from, held_words, bytes_left, opens}
use Rattle.histories.proofs.Moves.{up_to_min, length_held, put_bytes, taken_bytes, put_fit, asked_fit, taken_kind, taken_fit}

pub record Agree (q : Queue) (a : Account) : Type 0 where
  pub fit : Fit q.ring
  pub long : length q.words ≡ 8
  pub kind : q.ring.kind ≡ a.kind
  pub order : a.given ++ bytes_left q ≡ bytes_of a.loaded
  pub count : q.ring.count ≡ count_of a
  pub coming : q.ring.coming ≡ a.coming
  pub place : q.ring.place ≡ (a.first + wholly a) % queue_depth q.ring.kind

-- Places of a ring that is eight or four words deep are numbers of words, counted by its depth.
next_place : (m kind : ℕ) → around (queue_depth kind) (m % queue_depth kind + 1) ≡ (m + 1) % queue_depth kind
next_place m kind = elim (true_or_false (eqb kind 0)) [ inl e ↦ rw e eight | inr e ↦ rw e four ]
  where
    eight : around 8 (m % 8 + 1) ≡ (m + 1) % 8
    eight =
        by_test (λ n. n ≡ (m + 1) % 8) (ltb (m % 8 + 1) 8)
        (λ e. omega (arith, ltb-true (m % 8 + 1) 8 e)) (λ e. omega (arith, ltb-false (m % 8 + 1) 8 e))

    four : around 4 (m % 4 + 1) ≡ (m + 1) % 4
    four =
        by_test (λ n. n ≡ (m + 1) % 4) (ltb (m % 4 + 1) 4)
        (λ e. omega (arith, ltb-true (m % 4 + 1) 4 e)) (λ e. omega (arith, ltb-false (m % 4 + 1) 4 e))

place_four : (m kind : ℕ) → m % queue_depth kind % 4 ≡ m % 4
place_four m kind = elim (true_or_false (eqb kind 0)) [ inl e ↦ rw e (omega arith) | inr e ↦ rw e (omega arith) ]

module _ (q : Queue) (a : Account) (s : Agree q a) where
  -- Lengths alone settle how many words are held and how many bytes are read of the first.
  lengths : length a.given + (4 * q.ring.held - q.ring.taken) ≡ 4 * length a.loaded
  lengths =
      let left : length (bytes_left q) ≡ 4 * q.ring.held - q.ring.taken =
      omega (arith, length-drop q.ring.taken (bytes_of (held_words q)), length_bytes (held_words q), length_held q s.fit) in
      omega (arith, left, ap length s.order, length-append a.given (bytes_left q), length_bytes a.loaded)

  pub held_is : q.ring.held ≡ holds a
  held_is = omega (arith, lengths, s.fit.taken, s.fit.none)

  pub taken_is : q.ring.taken ≡ length a.given % 4
  taken_is = omega (arith, lengths, s.fit.taken, s.fit.none)

  pub depth_is : queue_depth q.ring.kind ≡ queue_depth a.kind
  depth_is = ap queue_depth s.kind

  pub full_is : is_full q.ring ≡ is_full_by a
  full_is = rw (s.kind, held_is, s.count)

  pub empty_is : is_empty q.ring ≡ is_empty_by a
  empty_is = ap (λ n. eqb n 0) held_is

  asked_is : (control : ℕ) → asked_by q.ring control ≡ asked_at_end a control
  asked_is control =
      let number : q.ring.place % 4 ≡ (a.first + wholly a) % 4 = ap (λ n. n % 4) s.place ∙ place_four (a.first + wholly a) q.ring.kind in
      rw (number, s.kind, held_is)

  pub next_is : 0 < q.ring.held → next_byte a ≡ front_byte q
  next_is some =
      ap (λ (l : List ℕ). get_or l (length a.given) 0)
      (sym s.order ∙ ap (λ (l : List ℕ). a.given ++ l) (taken_bytes q s.fit 0 some))
      ∙ get_or-append_seam a.given (front_byte q) (bytes_left (without_byte q 0)) 0

  pub agree_put : (w : ℕ) → is_full q.ring ≡ false → Agree (with_word q w) (with_loaded a w)
  agree_put w e =
      record {
        fit = put_fit q.ring s.fit e;
        long = length-set q.words (behind q.ring) w ∙ s.long;
        kind = s.kind;
        order =
            ap (λ (l : List ℕ). a.given ++ l) (put_bytes q s.fit w s.long (has_room_holds q.ring e))
            ∙ sym (append_assoc a.given (bytes_left q) (bytes_of (w ∷ [])))
            ∙ ap (λ (l : List ℕ). l ++ bytes_of (w ∷ [])) s.order
            ∙ sym (bytes_append a.loaded (w ∷ []));
        count = omega (arith, s.count, length-append a.loaded (w ∷ []));
        coming = ap (λ n. n - 1) s.coming;
        place = s.place;
      }

  pub agree_asked : (n : ℕ) → Agree (with_ask q n) (with_asked a n)
  agree_asked n =
      record {
        fit = asked_fit q.ring s.fit n;
        long = s.long;
        kind = s.kind;
        order = s.order;
        count = s.count;
        coming = up_to_min (queue_depth q.ring.kind) q.ring.coming n ∙ rw (s.kind, s.coming);
        place = s.place;
      }

  module _ (control : ℕ) (e : is_empty q.ring ≡ false) where
    some : 0 < q.ring.held
    some = some_held q.ring e

    taken_coming : (byte_taken q.ring control).coming ≡ coming_with a (asks_for a (read control))
    taken_coming =
        let d = queue_depth q.ring.kind in
        let read_some : is_empty_by a ≡ false = sym empty_is ∙ e in
        elim (true_or_false (eqb q.ring.taken 3)) [
          | inl t ↦
              rw (read_some, ← taken_is, t)
              (up_to_min d q.ring.coming (asked_by q.ring control)
              ∙ ap (λ n. min d (q.ring.coming + n)) (asked_is control)
              ∙ ap (λ n. min d (n + asked_at_end a control)) s.coming
              ∙ ap (λ n. min n (a.coming + asked_at_end a control)) depth_is)
          | inr t ↦ rw (read_some, ← taken_is, t) (omega (arith, s.coming, s.fit.coming, depth_is))
        ]

    taken_place : (byte_taken q.ring control).place ≡ (a.first + (length a.given + 1) / 4) % queue_depth q.ring.kind
    taken_place =
        let d = queue_depth q.ring.kind in
        by_test (λ (x : Ring). x.place ≡ (a.first + (length a.given + 1) / 4) % queue_depth q.ring.kind) (eqb q.ring.taken 3)
        (λ t.
        let more : a.first + wholly a + 1 ≡ a.first + (length a.given + 1) / 4 = omega (arith, taken_is, eqb-true q.ring.taken 3 t) in
        ap (λ n. around d (n + 1)) s.place ∙ next_place (a.first + wholly a) q.ring.kind ∙ ap (λ n. n % d) more)
        (λ t.
        let same : wholly a ≡ (length a.given + 1) / 4 = omega (arith, taken_is, s.fit.taken, eqb-false q.ring.taken 3 t) in
        s.place ∙ ap (λ n. (a.first + n) % d) same)

    pub agree_taken : Agree (without_byte q control) (with_given a (next_byte a) (asks_for a (read control)))
    agree_taken =
        let kept = taken_kind q.ring control in
        record {
          fit = taken_fit q.ring s.fit control some;
          long = s.long;
          kind = kept ∙ s.kind;
          order =
              append_snoc a.given (next_byte a) (bytes_left (without_byte q control))
              ∙ ap (λ n. a.given ++ n ∷ bytes_left (without_byte q control)) (next_is some)
              ∙ ap (λ (l : List ℕ). a.given ++ l) (sym (taken_bytes q s.fit control some))
              ∙ s.order;
          count = by_test (λ (x : Ring). x.count ≡ count_of a) (eqb q.ring.taken 3) (λ t. s.count) (λ t. s.count);
          coming = taken_coming;
          place =
              taken_place
              ∙ ap (λ n. (a.first + n / 4) % queue_depth q.ring.kind) (sym (length-append a.given (next_byte a ∷ [])))
              ∙ ap (λ k. (a.first + length (a.given ++ next_byte a ∷ []) / 4) % queue_depth k) (sym kept);
        }

pub agree_fresh : (kind : ℕ) → Agree (fresh_of kind) (opened kind)
unfolding bytes_of ring_from
agree_fresh kind =
    record {
      fit = fresh_fit kind;
      long = refl;
      kind = refl;
      order = refl;
      count = refl;
      coming = refl;
      place = sym (mod-eq_of_lt (fresh_fit kind).place);
    }

-- A fit record agrees with the account that opens with it.
pub agree_opens : (q : Queue) → Fit q.ring → length q.words ≡ 8 → Agree q (opens q)
agree_opens q f long =
    let held = bytes_of (held_words q) in
    let taken : length (take q.ring.taken held) ≡ q.ring.taken =
    length-take-le q.ring.taken held (omega (arith, length_bytes (held_words q), length_held q f, f.none)) in
    let none : q.ring.place ≡ q.ring.place + length (take q.ring.taken held) / 4 = omega (arith, taken, f.taken) in
    record {
      fit = f;
      long = long;
      kind = refl;
      order = take-append-drop q.ring.taken held;
      count = omega (arith, f.count, length_held q f);
      coming = refl;
      place = sym (mod-eq_of_lt f.place) ∙ ap (λ n. n % queue_depth q.ring.kind) none;
    }
