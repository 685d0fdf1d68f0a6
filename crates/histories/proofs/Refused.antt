-- 16 and 17 are told exactly when they should be, each then only, no other number ever, and a record that refuses is unchanged.
use Prim.Native.Nat.{ℕ, ◌-◌, ◌^◌}
use mathlib.Core.Bool.{Bool, true, false, ◌||◌}
use mathlib.Core.Logic.{◌⊎◌, ◌≢◌, ◌↔◌, inl, inr, ⊎_elim}
use mathlib.Core.Path.{◌≡◌, refl, sym, ◌∙◌, ap}
use native.Mathlib.Omega.{arith}
use borrow.Author.Tests.{leb-true, le-leb, eqb-true, eq-eqb}
use lib.Dec.{eqb, leb}
use Rattle.buffers.specs.Pick.{pick}
use Rattle.buffers.proofs.Tests.{or_split, or_left, or_right, no}
use Rattle.queues.specs.Queue.{queue_depth, fitted_of, is_full, is_empty}
use Rattle.queues.specs.Steps.{load_fit, read_fit, load_of, read_of, vertical_of, ask_of, horizontal_of, ends_of}
use Rattle.queues.specs.declared.Queue.{Queue}
use Rattle.queues.specs.declared.Step.{Step}
use Rattle.queues.proofs.Fits.{fitted_fit, fitted_kind}
use Rattle.histories.specs.Calls.{QueueCall, load, read, vertical, ask, horizontal, ends, made}
use Rattle.histories.specs.Refused.{refuses, refusal_of}
use Rattle.histories.proofs.Told.{by_tests}

-- A number picked by a test is told exactly when the test holds.
exactly : (t : Bool) (n : ℕ) → n ≢ 0 → pick t n 0 ≡ n ↔ t ≡ true
exactly true n h = (λ e. refl, λ e. refl)
exactly false n h = (λ e. absurd (h (sym e)), λ e. cc)

module _ (q : Queue) where
  pub number_told_holds : (c : QueueCall) → (made q c).reply.number ≡ pick (refuses q c) (refusal_of c) 0
  unfolding load_of load_fit read_of read_fit vertical_of ask_of horizontal_of ends_of
  number_told_holds (load w) = by_tests (λ (s : Step) (n : ℕ). s.reply.number ≡ n) (is_full (fitted_of q).ring) _ refl (λ e. refl) (λ e. refl)
  number_told_holds (read control) = by_tests (λ (s : Step) (n : ℕ). s.reply.number ≡ n) (is_empty (fitted_of q).ring) _ refl (λ e. refl) (λ e. refl)
  number_told_holds (vertical raster) = refl
  number_told_holds (ask words) = refl
  number_told_holds (horizontal g y) = refl
  number_told_holds (ends g y) = refl

  pub refused_unchanged : (c : QueueCall) → refuses q c ≡ true → (made q c).queue ≡ fitted_of q
  unfolding load_of load_fit read_of read_fit
  refused_unchanged (load w) e = rw e
  refused_unchanged (read control) e = rw e
  refused_unchanged (vertical raster) e = absurd (no e)
  refused_unchanged (ask words) e = absurd (no e)
  refused_unchanged (horizontal g y) e = absurd (no e)
  refused_unchanged (ends g y) e = absurd (no e)

  full_is_full : is_full (fitted_of q).ring ≡ true ↔ ((fitted_of q).ring.held ≡ queue_depth q.ring.kind) ⊎ ((fitted_of q).ring.count ≡ 2 ^ 64 - 1)
  full_is_full =
      let r = (fitted_of q).ring in
      let d = queue_depth r.kind in
      let same = ap queue_depth (fitted_kind q) in
      let full = leb d r.held in
      let most = eqb r.count (2 ^ 64 - 1) in
      let known : (full ≡ true) ⊎ (most ≡ true) → (r.held ≡ queue_depth q.ring.kind) ⊎ (r.count ≡ 2 ^ 64 - 1) =
      ⊎_elim (λ f. inl (omega (arith, leb-true d r.held f, (fitted_fit q).held, same))) (λ m. inr (eqb-true r.count (2 ^ 64 - 1) m)) in
      let tested : (r.held ≡ queue_depth q.ring.kind) ⊎ (r.count ≡ 2 ^ 64 - 1) → full || most ≡ true =
      ⊎_elim (λ f. or_left most (le-leb d r.held (omega (arith, same)))) (λ m. or_right full (eq-eqb r.count (2 ^ 64 - 1) m)) in
      (λ e. known (or_split full most e), tested)

  -- Full: as many words are held as the queue is deep.
  pub load_refused : (w : ℕ)
      → (made q (load w)).reply.number ≡ 16 ↔ ((fitted_of q).ring.held ≡ queue_depth q.ring.kind) ⊎ ((fitted_of q).ring.count ≡ 2 ^ 64 - 1)
  load_refused w =
      let told = exactly (is_full (fitted_of q).ring) 16 (λ e. omega arith) in
      (λ e. full_is_full.0 (told.0 (sym (number_told_holds (load w)) ∙ e)), λ f. number_told_holds (load w) ∙ told.1 (full_is_full.1 f))

  -- Empty: no word is held.
  pub read_refused : (control : ℕ) → (made q (read control)).reply.number ≡ 17 ↔ (fitted_of q).ring.held ≡ 0
  read_refused control =
      let told = exactly (is_empty (fitted_of q).ring) 17 (λ e. omega arith) in (
        λ e. eqb-true (fitted_of q).ring.held 0 (told.0 (sym (number_told_holds (read control)) ∙ e)),
        λ z. number_told_holds (read control) ∙ told.1 (eq-eqb (fitted_of q).ring.held 0 z),
      )
