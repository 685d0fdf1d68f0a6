-- What an account has loaded and given is what its history's own calls and answers tell since the last emptying, behind what it began with.
use Prim.Native.Nat.{ℕ}
use mathlib.Core.Bool.{true, false, not}
use mathlib.Core.List.{List, [], ◌∷◌, ◌++◌, append_assoc, append-nil}
use mathlib.Core.Logic.{inl, inr, ⊎_elim}
use mathlib.Core.Path.{◌≡◌, refl, sym, ◌∙◌, ap, subst}
use borrow.Author.Tests.{eqb-true, not-true}
use lib.Dec.{eqb, ltb}
use lib.ListN.{length}
use Rattle.buffers.specs.Pick.{pick}
use Rattle.buffers.specs.Words.{bytes_of}
use Rattle.buffers.proofs.Tests.{and_split, or_split, or_neither, no}
use Rattle.buffers.proofs.Split.{true_or_false}
use Rattle.queues.specs.Queue.{fresh_of, fitted_of, Fit}
use Rattle.queues.specs.declared.Queue.{Queue}
use Rattle.queues.proofs.Fits.{by_test, fresh_fit, fitted_fit, fitted_is, fitted_kind}
use Rattle.histories.specs.Calls.{QueueCall, load, read, vertical, ask, horizontal, ends}
use Rattle.histories.specs.Account.{Account, Turn, opened, is_full_by, is_empty_by, empties, asks_for, coming_with, with_loaded, with_given}
use Rattle.histories.specs.Account.{next_byte, turn, turned, account, account_told}
use Rattle.histories.specs.Since.{word_in, byte_in, words_since, bytes_since, loaded_by, given_by, emptied, start_of}
use Rattle.histories.specs.Opens.{ring_from, opens}
use Rattle.histories.proofs.Told.{by_tests, told}

-- One account goes on from another by so many words and bytes.
pub record Grows (a b : Account) (words bytes : List ℕ) : Type 0 where
  pub kind : b.kind ≡ a.kind
  pub before : b.before ≡ a.before
  pub first : b.first ≡ a.first
  pub loaded : b.loaded ≡ a.loaded ++ words
  pub given : b.given ≡ a.given ++ bytes

-- Only vertical sync empties, where it starts, and never sound.
pub emptying : (kind : ℕ) (c : QueueCall) → empties kind c ≡ true → (c ≡ vertical 0) × (ltb 1 kind ≡ false)
emptying kind (load w) e = absurd (no e)
emptying kind (read control) e = absurd (no e)
emptying kind (vertical raster) e =
    let h = and_split (eqb raster 0) (not (ltb 1 kind)) e in
    (ap vertical (eqb-true raster 0 h.0), not-true (ltb 1 kind) h.1)
emptying kind (ask words) e = absurd (no e)
emptying kind (horizontal g y) e = absurd (no e)
emptying kind (ends g y) e = absurd (no e)

module _ (a : Account) where
  -- Whatever words are still to come.
  unmoved : (words : ℕ)
      → Grows a (record { kind = a.kind; before = a.before; first = a.first; loaded = a.loaded; given = a.given; coming = words }) [] []
  unmoved words = record { kind = refl; before = refl; first = refl; loaded = sym (append-nil a.loaded); given = sym (append-nil a.given) }

  stays : Grows a a [] []
  stays = unmoved a.coming

  grows : (c : QueueCall) → empties a.kind c ≡ false
      → Grows a (turned a c).account (word_in c (turned a c).reply.number) (byte_in c (turned a c).reply.number (turned a c).reply.byte)
  grows (load w) e =
      by_test (λ (t : Turn). Grows a t.account (word_in (load w) t.reply.number) []) (is_full_by a) {y = turn (with_loaded a w) 0 0}
      (λ f. stays)
      (λ f. record { kind = refl; before = refl; first = refl; loaded = refl; given = sym (append-nil a.given) })
  grows (read control) e =
      by_test (λ (t : Turn). Grows a t.account [] (byte_in (read control) t.reply.number t.reply.byte)) (is_empty_by a)
      {y = turn (with_given a (next_byte a) (asks_for a (read control))) 0 (next_byte a)}
      (λ f. stays)
      (λ f. record { kind = refl; before = refl; first = refl; loaded = sym (append-nil a.loaded); given = refl })
  grows (vertical raster) e = rw e stays
  grows (ask words) e = unmoved (coming_with a words)
  grows (horizontal g y) e = unmoved (coming_with a (asks_for a (horizontal g y)))
  grows (ends g y) e = unmoved (coming_with a (asks_for a (ends g y)))

  opened_anew : (c : QueueCall) → empties a.kind c ≡ true → (turned a c).account ≡ opened a.kind
  opened_anew c e = let h = emptying a.kind c e in rw (h.0, h.1)

-- The account that the calls since the last emptying began with.
unfoldable begun : Account → List QueueCall → Account
begun a [] = a
begun a (c ∷ cs) = pick (empties a.kind c) (opened a.kind) (begun a cs)

grows_on : (a b c : Account) (words bytes more others : List ℕ) → Grows a b words bytes → Grows b c more others
    → Grows a c (words ++ more) (bytes ++ others)
grows_on a b c words bytes more others g h =
    record {
      kind = h.kind ∙ g.kind;
      before = h.before ∙ g.before;
      first = h.first ∙ g.first;
      loaded = h.loaded ∙ ap (λ (l : List ℕ). l ++ more) g.loaded ∙ append_assoc a.loaded words more;
      given = h.given ∙ ap (λ (l : List ℕ). l ++ others) g.given ∙ append_assoc a.given bytes others;
    }

begun_kind : (a : Account) (cs : List QueueCall) → (begun a cs).kind ≡ a.kind
unfolding begun
begun_kind a [] = refl
begun_kind a (c ∷ cs) = by_test (λ (x : Account). x.kind ≡ a.kind) (empties a.kind c) (λ e. refl) (λ e. begun_kind a cs)

stretch : (a : Account) (cs : List QueueCall)
    → Grows (begun a cs) (account a cs) (words_since a.kind (account_told a cs)) (bytes_since a.kind (account_told a cs))
unfolding begun account account_told words_since bytes_since
stretch a [] = stays a
stretch a (c ∷ cs) =
    let g = stretch a cs in
    let kind : (account a cs).kind ≡ a.kind = g.kind ∙ begun_kind a cs in
    elim (true_or_false (empties a.kind c)) [
      | inl e ↦ rw (e, opened_anew (account a cs) c (rw kind e), kind) (stays (opened a.kind))
      | inr e ↦ rw e (grows_on (begun a cs) (account a cs) _ _ _ _ _ g (grows (account a cs) c (rw kind e)))
    ]

-- It began as the record then was.
opens_fresh : (kind : ℕ) → opens (fresh_of kind) ≡ opened kind
unfolding ring_from bytes_of
opens_fresh kind = refl

begun_opens : (q : Queue) (cs : List QueueCall) → begun (opens (fitted_of q)) cs ≡ opens (start_of q cs)
unfolding begun start_of
begun_opens q [] = refl
begun_opens q (c ∷ cs) =
    by_tests (λ (x : Account) (y : Queue). x ≡ opens y) (empties (fitted_of q).ring.kind c) (empties q.ring.kind c)
    (ap (λ k. empties k c) (fitted_kind q))
    (λ e. ap opened (fitted_kind q) ∙ sym (opens_fresh q.ring.kind))
    (λ e. begun_opens q cs)

pub start_fit : (q : Queue) (cs : List QueueCall) → Fit (start_of q cs).ring
unfolding start_of
start_fit q [] = fitted_fit q
start_fit q (c ∷ cs) =
    by_test (λ (x : Queue). Fit x.ring) (empties q.ring.kind c) (λ e. fresh_fit q.ring.kind) (λ e. start_fit q cs)

-- So of the record: what its history tells is what its account has loaded and given behind what the record began with.
pub stretch_of_holds :
    (q : Queue) → length q.words ≡ 8 → (cs : List QueueCall)
    → Grows (opens (start_of q cs)) (account (opens (fitted_of q)) cs) (loaded_by q cs) (given_by q cs)
stretch_of_holds q long cs =
    rw (← begun_opens q cs, told q long cs)
    (subst (λ (k : ℕ). Grows (begun (opens (fitted_of q)) cs) (account (opens (fitted_of q)) cs) (words_since k (account_told (opens (fitted_of q)) cs))
    (bytes_since k (account_told (opens (fitted_of q)) cs))) (fitted_kind q) (stretch (opens (fitted_of q)) cs))

start_kind : (q : Queue) (cs : List QueueCall) → (start_of q cs).ring.kind ≡ q.ring.kind
unfolding start_of
start_kind q [] = fitted_kind q
start_kind q (c ∷ cs) =
    by_test (λ (x : Queue). x.ring.kind ≡ q.ring.kind) (empties q.ring.kind c) (λ e. refl) (λ e. start_kind q cs)

pub account_kind : (q : Queue) → length q.words ≡ 8 → (cs : List QueueCall) → (account (opens (fitted_of q)) cs).kind ≡ q.ring.kind
account_kind q long cs = (stretch_of_holds q long cs).kind ∙ start_kind q cs

-- When the calls since began with a fresh record: an emptying among them, or a first record that is fresh or unfit.
pub start_fresh : (q : Queue) → fitted_of q ≡ fresh_of q.ring.kind → (cs : List QueueCall) → start_of q cs ≡ fresh_of q.ring.kind
unfolding start_of
start_fresh q e [] = e
start_fresh q e (c ∷ cs) =
    by_test (λ (x : Queue). x ≡ fresh_of q.ring.kind) (empties q.ring.kind c) (λ t. refl) (λ t. start_fresh q e cs)

pub start_emptied : (q : Queue) (cs : List QueueCall) → emptied q.ring.kind cs ≡ true → start_of q cs ≡ fresh_of q.ring.kind
unfolding start_of emptied
start_emptied q [] e = absurd (no e)
start_emptied q (c ∷ cs) e =
    ⊎_elim (λ t. rw t)
    (λ t. by_test (λ (x : Queue). x ≡ fresh_of q.ring.kind) (empties q.ring.kind c) (λ s. refl) (λ s. start_emptied q cs t))
    (or_split (empties q.ring.kind c) (emptied q.ring.kind cs) e)

-- And when with the first one as it is: that is fit, and nothing has emptied it.
pub start_same : (q : Queue) → Fit q.ring → (cs : List QueueCall) → emptied q.ring.kind cs ≡ false → start_of q cs ≡ q
unfolding start_of emptied
start_same q f [] e = fitted_is q f
start_same q f (c ∷ cs) e =
    let h = or_neither (empties q.ring.kind c) (emptied q.ring.kind cs) e in
    rw h.0 (start_same q f cs h.1)
