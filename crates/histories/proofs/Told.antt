-- What the calls of a history answer is what the account says, whatever record they begin with.
use Prim.Native.Nat.{ℕ}
use mathlib.Core.Bool.{Bool, true, false, not}
use mathlib.Core.List.{List, [], ◌∷◌}
use mathlib.Core.Logic.{inl, inr}
use mathlib.Core.Path.{◌≡◌, refl, sym, ap, subst}
use lib.Dec.{eqb, ltb}
use lib.ListN.{length}
use Rattle.buffers.specs.Pick.{pick}
use Rattle.buffers.proofs.Split.{true_or_false}
use Rattle.queues.specs.Queue.{fresh_of, fitted_of, is_fit, is_full, is_empty}
use Rattle.queues.specs.Steps.{step_of, with_word, without_byte, with_ask, load_fit, read_fit, load_of, read_of}
use Rattle.queues.specs.Steps.{emptied_of, vertical_of, ask_of, horizontal_of, ends_of}
use Rattle.queues.specs.Syncs.{cursor_ask, video_ask}
use Rattle.queues.specs.declared.Queue.{Queue}
use Rattle.queues.specs.declared.Step.{Step}
use Rattle.queues.proofs.Counts.{some_held}
use Rattle.queues.proofs.Fits.{by_test, fitted_fit, fitted_is, fitted_kind}
use Rattle.histories.specs.Calls.{QueueCall, load, read, vertical, ask, horizontal, ends, made, after, answers}
use Rattle.histories.specs.Account.{Account, Turn, is_full_by, is_empty_by, next_byte, asks_for, with_loaded, with_given, with_asked, turn, turned}
use Rattle.histories.specs.Account.{opened, empties, account, account_told}
use Rattle.histories.specs.Opens.{opens}
use Rattle.histories.proofs.Agree.{Agree, full_is, empty_is, next_is, agree_put, agree_asked, agree_taken, agree_fresh, agree_opens}

-- Two choices by tests that are the same.
pub by_tests : {A B : Type 0} (P : A → B → Type 0) (s t : Bool) {x y : A} {v w : B} → s ≡ t → (s ≡ true → P x v) → (s ≡ false → P y w)
    → P (pick s x y) (pick t v w)
by_tests P true t e p q = rw (← e) (p refl)
by_tests P false t e p q = rw (← e) (q refl)

-- A step and a turn that leave what agrees, and answer the same.
pub record Same (s : Step) (t : Turn) : Type 0 where
  pub agree : Agree s.queue t.account
  pub reply : s.reply ≡ t.reply

same_step : (q : Queue) (a : Account) → Agree q a → (number byte : ℕ) → Same (step_of q number byte) (turn a number byte)
same_step q a s number byte = record { agree = s; reply = rw (s.count, s.coming) }

module _ (q : Queue) (a : Account) (s : Agree q a) where
  same_load : (w : ℕ) → Same (load_of q w) (turned a (load w))
  unfolding load_of load_fit
  same_load w =
      rw (fitted_is q s.fit)
      (by_tests Same (is_full q.ring) (is_full_by a) (full_is q a s)
      (λ e. same_step q a s 16 0)
      (λ e. same_step (with_word q w) (with_loaded a w) (agree_put q a s w e) 0 0))

  same_read : (control : ℕ) → Same (read_of q control) (turned a (read control))
  unfolding read_of read_fit
  same_read control =
      rw (fitted_is q s.fit)
      (by_tests Same (is_empty q.ring) (is_empty_by a) (empty_is q a s)
      (λ e. same_step q a s 17 0)
      (λ e.
      rw (← next_is q a s (some_held q.ring e))
      (same_step (without_byte q control) (with_given a (next_byte a) (asks_for a (read control))) (agree_taken q a s control e) 0 (next_byte a))))

  agree_emptied : (t : Bool) → Agree (pick t q (fresh_of q.ring.kind)) (pick (not t) (opened a.kind) a)
  agree_emptied true = s
  agree_emptied false = subst (λ (k : ℕ). Agree (fresh_of q.ring.kind) (opened k)) s.kind (agree_fresh q.ring.kind)

  agree_vertical : (raster : ℕ)
      → Agree (pick (eqb raster 0) (emptied_of q) q) (pick (empties a.kind (vertical raster)) (opened a.kind) a)
  agree_vertical raster = elim (true_or_false (eqb raster 0)) [
    | inl e ↦
        rw e
        (subst (λ (k : ℕ). Agree (emptied_of q) (pick (not (ltb 1 k)) (opened a.kind) a)) s.kind
        (agree_emptied (ltb 1 q.ring.kind)))
    | inr e ↦ rw e s
  ]

  same_vertical : (raster : ℕ) → Same (vertical_of q raster) (turned a (vertical raster))
  unfolding vertical_of
  same_vertical raster =
      rw (fitted_is q s.fit)
      (same_step (pick (eqb raster 0) (emptied_of q) q) (pick (empties a.kind (vertical raster)) (opened a.kind) a) (agree_vertical raster) 0 0)

  same_ask : (words : ℕ) → Same (ask_of q words) (turned a (ask words))
  unfolding ask_of
  same_ask words = rw (fitted_is q s.fit) (same_step (with_ask q words) (with_asked a words) (agree_asked q a s words) 0 0)

  same_asks : (words number : ℕ) → words ≡ number → Same (ask_of q words) (turned a (ask number))
  same_asks words number e = rw e (same_ask number)

  pub same_call : (c : QueueCall) → Same (made q c) (turned a c)
  unfolding horizontal_of ends_of
  same_call (load w) = same_load w
  same_call (read control) = same_read control
  same_call (vertical raster) = same_vertical raster
  same_call (ask words) = same_ask words
  same_call (horizontal g y) = same_asks _ _ (ap (λ k. pick (eqb k 1) (cursor_ask g y) 0) s.kind)
  same_call (ends g y) = same_asks _ _ (ap (λ k. pick (eqb k 0) (video_ask g y) 0) s.kind)

-- A call goes on with the fitted record.
pub made_fitted : (q : Queue) (c : QueueCall) → made (fitted_of q) c ≡ made q c
unfolding load_of read_of vertical_of ask_of horizontal_of ends_of
made_fitted q c = go c (fitted_is (fitted_of q) (fitted_fit q))
  where
    go : (c : QueueCall) → fitted_of (fitted_of q) ≡ fitted_of q → made (fitted_of q) c ≡ made q c
    go (load w) e = rw e
    go (read control) e = rw e
    go (vertical raster) e = rw e
    go (ask words) e = rw e
    go (horizontal g y) e = rw (e, fitted_kind q)
    go (ends g y) e = rw (e, fitted_kind q)

same_made : (q : Queue) (a : Account) → Agree (fitted_of q) a → (c : QueueCall) → Same (made q c) (turned a c)
same_made q a s c = subst (λ (x : Step). Same x (turned a c)) (made_fitted q c) (same_call (fitted_of q) a s c)

fitted_long : (q : Queue) → length q.words ≡ 8 → length (fitted_of q).words ≡ 8
unfolding fitted_of
fitted_long q long = by_test (λ (x : Queue). length x.words ≡ 8) (is_fit q.ring) (λ e. long) (λ e. refl)

-- From any record with its eight words, over any history.
module _ (q : Queue) (long : length q.words ≡ 8) where
  pub agrees : (cs : List QueueCall) → Agree (fitted_of (after q cs)) (account (opens (fitted_of q)) cs)
  unfolding after account
  agrees [] = agree_opens (fitted_of q) (fitted_fit q) (fitted_long q long)
  agrees (c ∷ cs) =
      let t = same_made (after q cs) (account (opens (fitted_of q)) cs) (agrees cs) c in
      subst (λ (x : Queue). Agree x (turned (account (opens (fitted_of q)) cs) c).account)
      (sym (fitted_is (made (after q cs) c).queue t.agree.fit)) t.agree

  pub same_turn : (cs : List QueueCall) (c : QueueCall) → Same (made (after q cs) c) (turned (account (opens (fitted_of q)) cs) c)
  same_turn cs c = same_made (after q cs) (account (opens (fitted_of q)) cs) (agrees cs) c

  -- Bytes in order, counts, asks and refusals, all at once.
  pub told : (cs : List QueueCall) → answers q cs ≡ account_told (opens (fitted_of q)) cs
  unfolding answers account_told
  told [] = refl
  told (c ∷ cs) = rw ((same_turn cs c).reply, told cs)
