-- A word put in and a byte taken out: what is left to read, and that the record stays fit.
use Prim.Native.Nat.{ℕ, zero, suc, ◌+◌, ◌*◌, ◌-◌, ◌/◌, ◌%◌, ◌^◌, ◌<◌, ◌≤◌, min}
use mathlib.Core.Bool.{false}
use mathlib.Core.List.{List, [], ◌∷◌, ◌++◌}
use mathlib.Core.Path.{◌≡◌, refl, sym, ◌∙◌, ap}
use native.Mathlib.Numerals.{add-one}
use native.Mathlib.Omega.{arith}
use borrow.Author.Tests.{ltb-true, ltb-false, eqb-true, eqb-false}
use lib.Dec.{eqb, ltb}
use lib.ListN.{length, drop, get_or}
use lib.Seq.{drop-cons, drop-append-le}
use Rattle.buffers.specs.Words.{bytes_of}
use Rattle.buffers.proofs.Words.{length_bytes, bytes_append, bytes_at}
use Rattle.queues.specs.Queue.{queue_depth, around, is_full, Fit, front_byte}
use Rattle.queues.specs.Steps.{ring_put, up_to, ring_asked, asked_by, byte_taken, with_word, without_byte}
use Rattle.queues.specs.declared.Queue.{Queue}
use Rattle.queues.specs.declared.Ring.{Ring}
use Rattle.queues.proofs.Counts.{around_lt, has_room_holds}
use Rattle.queues.proofs.Fits.{by_test}
use Rattle.histories.specs.Opens.{ring_from, held_words, bytes_left}
use Rattle.histories.proofs.Rings.{ring_put_holds, length_ring}

-- The bytes still to read, of a record's words and numbers.
abbrev pub bytes_in : List ℕ → Ring → List ℕ
bytes_in words r = drop r.taken (bytes_of (ring_from words (queue_depth r.kind) r.place r.held))

pub up_to_min : (limit a b : ℕ) → up_to limit a b ≡ min limit (a + b)
up_to_min limit a b =
    by_test (λ n. n ≡ min limit (a + b)) (ltb limit (a + b))
    (λ e. omega (arith, ltb-true limit (a + b) e)) (λ e. omega (arith, ltb-false limit (a + b) e))

-- A word has four bytes, each taken off in its turn.
byte_off : (w t : ℕ) (words : List ℕ) → t < 4 → drop t (bytes_of (w ∷ words)) ≡ w / 2 ^ (8 * t) % 256 ∷ drop (suc t) (bytes_of (w ∷ words))
byte_off w t words h =
    let first : t / 4 ≡ 0 = omega arith in
    let same : t % 4 ≡ t = omega arith in
    let all : 4 ≤ length (bytes_of (w ∷ words)) = omega (arith, length_bytes (w ∷ words)) in
    drop-cons (bytes_of (w ∷ words)) t 0 (omega arith)
    ∙ ap (λ b. b ∷ drop (suc t) (bytes_of (w ∷ words))) (bytes_at (w ∷ words) t (omega arith) ∙ rw (first, same))

last_off : (w : ℕ) (words : List ℕ) → drop 4 (bytes_of (w ∷ words)) ≡ bytes_of words
unfolding bytes_of
last_off w words = refl

ring_next : (words : List ℕ) (d p n : ℕ) → 0 < n → ring_from words d p n ≡ get_or words p 0 ∷ ring_from words d (around d (p + 1)) (n - 1)
unfolding ring_from
ring_next words d p zero h = absurd (omega arith)
ring_next words d p (suc n) h = let e : suc n - 1 ≡ n = omega arith in rw e

module _ (q : Queue) (f : Fit q.ring) where
  pub length_held : length (held_words q) ≡ q.ring.held
  length_held = length_ring (queue_depth q.ring.kind) q.words q.ring.place q.ring.held

  pub put_bytes : (w : ℕ) → length q.words ≡ 8 → q.ring.held < queue_depth q.ring.kind
      → bytes_left (with_word q w) ≡ bytes_left q ++ bytes_of (w ∷ [])
  put_bytes w long room =
      let held = bytes_of (held_words q) in
      let enough : q.ring.taken ≤ length held = omega (arith, length_bytes (held_words q), length_held, f.none) in
      rw (
        add-one q.ring.held,
        ring_put_holds (queue_depth q.ring.kind) q.words w q.ring.place q.ring.held (omega (arith, f.deep, long)) f.place room,
        bytes_append (held_words q) (w ∷ []),
        drop-append-le q.ring.taken held (bytes_of (w ∷ [])) enough,
      )

  pub taken_bytes : (control : ℕ) → 0 < q.ring.held → bytes_left q ≡ front_byte q ∷ bytes_left (without_byte q control)
  taken_bytes control some =
      let r = q.ring in
      let d = queue_depth r.kind in
      let next = ring_from q.words d (around d (r.place + 1)) (r.held - 1) in
      let w = get_or q.words r.place 0 in
      let held : held_words q ≡ w ∷ next = ring_next q.words d r.place r.held some in
      let off : bytes_left q ≡ front_byte q ∷ drop (suc r.taken) (bytes_of (w ∷ next)) =
      ap (λ (l : List ℕ). drop r.taken (bytes_of l)) held ∙ byte_off w r.taken next f.taken in
      let front : List ℕ → List ℕ = λ l. front_byte q ∷ l in
      by_test (λ (x : Ring). bytes_left q ≡ front_byte q ∷ bytes_in q.words x) (eqb r.taken 3)
      (λ e. off ∙ ap (λ n. front (drop (suc n) (bytes_of (w ∷ next)))) (eqb-true r.taken 3 e) ∙ ap front (last_off w next))
      (λ e.
      off
      ∙ ap (λ n. front (drop n (bytes_of (w ∷ next)))) (sym (add-one r.taken))
      ∙ ap (λ (l : List ℕ). front (drop (r.taken + 1) (bytes_of l))) (sym held))

module _ (r : Ring) (f : Fit r) where
  pub put_fit : is_full r ≡ false → Fit (ring_put r)
  put_fit e =
      let room = has_room_holds r e in
      record {
        place = f.place;
        held = omega arith;
        coming = omega (arith, f.coming);
        taken = f.taken;
        none = omega (arith, f.none);
        count = omega (arith, f.count);
        deep = f.deep;
      }

  pub asked_fit : (n : ℕ) → Fit (ring_asked r n)
  asked_fit n =
      record {
        place = f.place;
        held = f.held;
        coming = omega (arith, up_to_min (queue_depth r.kind) r.coming n);
        taken = f.taken;
        none = f.none;
        count = f.count;
        deep = f.deep;
      }

pub taken_kind : (r : Ring) (control : ℕ) → (byte_taken r control).kind ≡ r.kind
taken_kind r control = by_test (λ (x : Ring). x.kind ≡ r.kind) (eqb r.taken 3) (λ t. refl) (λ t. refl)

pub taken_fit : (r : Ring) → Fit r → (control : ℕ) → 0 < r.held → Fit (byte_taken r control)
taken_fit r f control some =
    let d = queue_depth r.kind in
    let next : Ring = record { kind = r.kind; taken = 0; place = around d (r.place + 1); held = r.held - 1; coming = r.coming; count = r.count } in
    let freed : Fit next =
    record {
      place = around_lt d (r.place + 1) (omega (arith, f.place));
      held = omega (arith, f.held);
      coming = f.coming;
      taken = omega arith;
      none = omega arith;
      count = omega (arith, f.count);
      deep = f.deep;
    } in
    by_test Fit (eqb r.taken 3)
    (λ e. asked_fit next freed (asked_by r control))
    (λ e.
    record {
      place = f.place;
      held = f.held;
      coming = f.coming;
      taken = less r.taken f.taken e;
      none = omega (arith, less r.taken f.taken e);
      count = f.count;
      deep = f.deep;
    })
  where
    less : (t : ℕ) → t < 4 → eqb t 3 ≡ false → t + 1 < 4
    less t h e = let n = eqb-false t 3 e in omega arith
