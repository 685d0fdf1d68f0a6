-- Every call leaves a fit record, answers that record's count and whether it asks, and adds what it asks for to the words still to come.
use Prim.Native.Nat.{ℕ, ◌+◌, ◌-◌, ◌≤◌, min}
use mathlib.Core.Bool.{true, false}
use mathlib.Core.List.{List}
use mathlib.Core.Path.{◌≡◌, refl, sym, ◌∙◌, ap}
use native.Mathlib.Omega.{arith}
use lib.Dec.{eqb, ltb}
use lib.ListN.{length}
use Rattle.buffers.proofs.Tests.{no}
use Rattle.queues.specs.Queue.{queue_depth, fresh_of, fitted_of, is_full, is_empty, asks_bit, Fit, front_byte}
use Rattle.queues.specs.Steps.{step_of, emptied_of, with_ask, with_word, without_byte, load_fit, read_fit}
use Rattle.queues.specs.Steps.{load_of, read_of, vertical_of, ask_of, horizontal_of, ends_of}
use Rattle.queues.specs.declared.Queue.{Queue}
use Rattle.queues.specs.declared.Reply.{Reply}
use Rattle.queues.specs.declared.Step.{Step}
use Rattle.queues.proofs.Counts.{some_held}
use Rattle.queues.proofs.Fits.{by_test, fresh_fit, fitted_fit, fitted_kind}
use Rattle.histories.specs.Calls.{QueueCall, load, read, vertical, ask, horizontal, ends, made, after}
use Rattle.histories.specs.Account.{Account, Turn, is_full_by, is_empty_by, empties, asks_for, next_byte}
use Rattle.histories.specs.Account.{with_loaded, with_given, coming_with, turn, turned, account}
use Rattle.histories.specs.Since.{word_in}
use Rattle.histories.specs.Opens.{opens}
use Rattle.histories.proofs.Moves.{put_fit, taken_kind, taken_fit, asked_fit}
use Rattle.histories.proofs.Agree.{depth_is}
use Rattle.histories.proofs.Told.{agrees, same_turn}
use Rattle.histories.proofs.Stretch.{emptying, account_kind}

-- Of its kind, fit, its count and whether it asks: what every answer carries is of the record as the call leaves it.
pub record Leaves (k : ℕ) (s : Step) : Type 0 where
  pub kind : s.queue.ring.kind ≡ k
  pub fit : Fit s.queue.ring
  pub count : s.reply.count ≡ s.queue.ring.count
  pub asks : s.reply.asks ≡ asks_bit s.queue.ring

step_leaves : (q : Queue) (number byte kind : ℕ) → q.ring.kind ≡ kind → Fit q.ring → Leaves kind (step_of q number byte)
step_leaves q number byte kind k f = record { kind = k; fit = f; count = refl; asks = refl }

emptied_of_holds : (q : Queue) (kind : ℕ) → q.ring.kind ≡ kind → ltb 1 kind ≡ false → emptied_of q ≡ fresh_of kind
emptied_of_holds q kind k e =
    let f : ltb 1 q.ring.kind ≡ false = rw k e in
    by_test (λ (x : Queue). x ≡ fresh_of kind) (ltb 1 q.ring.kind) (λ t. absurd (no (sym f ∙ t))) (λ t. ap fresh_of k)

module _ (q : Queue) where
  load_leaves : (w : ℕ) → Leaves q.ring.kind (load_of q w)
  unfolding load_of load_fit
  load_leaves w =
      let f = fitted_of q in
      by_test (Leaves q.ring.kind) (is_full f.ring)
      (λ e. step_leaves f 16 0 q.ring.kind (fitted_kind q) (fitted_fit q))
      (λ e. step_leaves (with_word f w) 0 0 q.ring.kind (fitted_kind q) (put_fit f.ring (fitted_fit q) e))

  read_leaves_holds : (control : ℕ) → Leaves q.ring.kind (read_of q control)
  unfolding read_of read_fit
  read_leaves_holds control =
      let f = fitted_of q in
      by_test (Leaves q.ring.kind) (is_empty f.ring)
      (λ e. step_leaves f 17 0 q.ring.kind (fitted_kind q) (fitted_fit q))
      (λ e.
      step_leaves (without_byte f control) 0 (front_byte f) q.ring.kind (taken_kind f.ring control ∙ fitted_kind q)
      (taken_fit f.ring (fitted_fit q) control (some_held f.ring e)))

  vertical_leaves : (raster : ℕ) → Leaves q.ring.kind (vertical_of q raster)
  unfolding vertical_of
  vertical_leaves raster =
      let f = fitted_of q in
      let leaves : Queue → Type 0 = λ x. Leaves q.ring.kind (step_of x 0 0) in
      let stays = step_leaves f 0 0 q.ring.kind (fitted_kind q) (fitted_fit q) in
      let emptied = step_leaves (fresh_of f.ring.kind) 0 0 q.ring.kind (fitted_kind q) (fresh_fit f.ring.kind) in
      by_test leaves (eqb raster 0) (λ e. by_test leaves (ltb 1 f.ring.kind) (λ t. stays) (λ t. emptied)) (λ e. stays)

  ask_leaves : (words : ℕ) → Leaves q.ring.kind (ask_of q words)
  unfolding ask_of
  ask_leaves words =
      step_leaves (with_ask (fitted_of q) words) 0 0 q.ring.kind (fitted_kind q) (asked_fit (fitted_of q).ring (fitted_fit q) words)

  -- Any call, on any record.
  pub leaves : (c : QueueCall) → Leaves q.ring.kind (made q c)
  unfolding horizontal_of ends_of
  leaves (load w) = load_leaves w
  leaves (read control) = read_leaves_holds control
  leaves (vertical raster) = vertical_leaves raster
  leaves (ask words) = ask_leaves words
  leaves (horizontal g y) = ask_leaves _
  leaves (ends g y) = ask_leaves _

  pub fit_kept : (c : QueueCall) → Fit (made q c).queue.ring
  fit_kept c = (leaves c).fit

  pub coming_most : (c : QueueCall) → (made q c).queue.ring.coming ≤ queue_depth q.ring.kind
  coming_most c = omega (arith, (leaves c).fit.coming, ap queue_depth (leaves c).kind)

  -- An emptying leaves a fresh record, with nothing to come.
  module _ (c : QueueCall) (e : empties q.ring.kind c ≡ true) where
    pub emptied_fresh : (made q c).queue ≡ fresh_of q.ring.kind
    unfolding vertical_of
    emptied_fresh =
        let h = emptying q.ring.kind c e in
        rw h.0 (emptied_of_holds (fitted_of q) q.ring.kind (fitted_kind q) h.1)

    pub emptied_none : (made q c).queue.ring.coming ≡ 0
    emptied_none = ap (λ (x : Queue). x.ring.coming) emptied_fresh ∙ rw (emptying q.ring.kind c e).1

-- What a call asks for is added up to the depth; a word loaded takes one off.
comes : (a : Account) (c : QueueCall) → a.coming ≤ queue_depth a.kind → empties a.kind c ≡ false
    → (turned a c).account.coming ≡ coming_with a (asks_for a c) - length (word_in c (turned a c).reply.number)
comes a (load w) h e =
    by_test (λ (t : Turn). t.account.coming ≡ coming_with a 0 - length (word_in (load w) t.reply.number)) (is_full_by a)
    {x = turn a 16 0} {y = turn (with_loaded a w) 0 0} (λ f. omega arith) (λ f. omega arith)
comes a (read control) h e =
    by_test (λ (t : Turn). t.account.coming ≡ coming_with a (asks_for a (read control)) - 0) (is_empty_by a)
    {x = turn a 17 0} {y = turn (with_given a (next_byte a) (asks_for a (read control))) 0 (next_byte a)} (λ f. rw f (omega arith)) (λ f. omega arith)
comes a (vertical raster) h e = rw e (omega arith)
comes a (ask words) h e = omega arith
comes a (horizontal g y) h e = omega arith
comes a (ends g y) h e = omega arith

-- After any history.
module _ (q : Queue) (long : length q.words ≡ 8) (cs : List QueueCall) (c : QueueCall) where
  pub coming_rule :
      empties q.ring.kind c ≡ false
      → (made (after q cs) c).queue.ring.coming
      ≡ min (queue_depth q.ring.kind) ((fitted_of (after q cs)).ring.coming + asks_for (account (opens (fitted_of q)) cs) c)
      - length (word_in c (made (after q cs) c).reply.number)
  coming_rule e =
      let a = account (opens (fitted_of q)) cs in
      let g = agrees q long cs in
      let s = same_turn q long cs c in
      let kind = account_kind q long cs in
      let most : a.coming ≤ queue_depth a.kind = omega (arith, g.fit.coming, g.coming, depth_is (fitted_of (after q cs)) a g) in
      s.agree.coming
      ∙ comes a c most (rw kind e)
      ∙ ap (λ k. min (queue_depth k) (a.coming + asks_for a c) - length (word_in c (turned a c).reply.number)) kind
      ∙ ap (λ n. min (queue_depth q.ring.kind) (n + asks_for a c) - length (word_in c (turned a c).reply.number)) (sym g.coming)
      ∙ ap (λ (r : Reply). min (queue_depth q.ring.kind) ((fitted_of (after q cs)).ring.coming + asks_for a c) - length (word_in c r.number))
      (sym s.reply)
