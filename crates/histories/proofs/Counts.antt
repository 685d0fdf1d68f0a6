-- The count that every answer carries is the loads in the history since the last emptying, behind the count of a fit record taken as it is,
-- and never above the words wholly read since then plus the depth.
use Prim.Native.Nat.{◌+◌, ◌-◌, ◌/◌, ◌≤◌}
use mathlib.Core.Bool.{false}
use mathlib.Core.List.{List, ◌∷◌}
use mathlib.Core.Path.{◌≡◌, sym, ◌∙◌, ap}
use native.Mathlib.Omega.{arith}
use lib.ListN.{length, take, length-append}
use lib.Seq.{length-take-le}
use Rattle.buffers.specs.Words.{bytes_of}
use Rattle.buffers.proofs.Words.{length_bytes}
use Rattle.queues.specs.Queue.{queue_depth, fresh_of, fitted_of, Fit}
use Rattle.queues.specs.declared.Queue.{Queue}
use Rattle.queues.proofs.Fits.{fitted_is}
use Rattle.histories.specs.Calls.{QueueCall, made, after}
use Rattle.histories.specs.Account.{account}
use Rattle.histories.specs.Since.{loaded_by, given_by, emptied, start_of}
use Rattle.histories.specs.Opens.{held_words, opens}
use Rattle.histories.proofs.Moves.{length_held}
use Rattle.histories.proofs.Agree.{held_is, depth_is}
use Rattle.histories.proofs.Told.{agrees}
use Rattle.histories.proofs.Stretch.{stretch_of_holds, start_fit, start_same, account_kind}
use Rattle.histories.proofs.Kept.{leaves}

module _ (q : Queue) (long : length q.words ≡ 8) (cs : List QueueCall) where
  -- Of the record after a history.
  counted_is : (fitted_of (after q cs)).ring.count ≡ (start_of q cs).ring.count + length (loaded_by q cs)
  counted_is =
      let s = start_of q cs in
      let g = stretch_of_holds q long cs in
      omega (
        arith,
        (agrees q long cs).count,
        g.before,
        ap length g.loaded,
        length-append (held_words s) (loaded_by q cs),
        length_held s (start_fit q cs),
        (start_fit q cs).count,
      )

  bounded : (fitted_of (after q cs)).ring.count
      ≤ (start_of q cs).ring.count - (start_of q cs).ring.held + ((start_of q cs).ring.taken + length (given_by q cs)) / 4 + queue_depth q.ring.kind
  bounded =
      let s = start_of q cs in
      let a = account (opens (fitted_of q)) cs in
      let g = stretch_of_holds q long cs in
      let x = agrees q long cs in
      let f = start_fit q cs in
      let held = bytes_of (held_words s) in
      let taken : length (take s.ring.taken held) ≡ s.ring.taken =
      length-take-le s.ring.taken held (omega (arith, length_bytes (held_words s), length_held s f, f.none)) in
      let given : length a.given ≡ s.ring.taken + length (given_by q cs) =
      omega (arith, ap length g.given, length-append (take s.ring.taken held) (given_by q cs), taken) in
      let deep : queue_depth (fitted_of (after q cs)).ring.kind ≡ queue_depth q.ring.kind =
      depth_is (fitted_of (after q cs)) a x ∙ ap queue_depth (account_kind q long cs) in
      omega (arith, given, deep, x.count, g.before, x.fit.held, held_is (fitted_of (after q cs)) a x)

module _ (q : Queue) (long : length q.words ≡ 8) (cs : List QueueCall) (c : QueueCall) where
  left_is : fitted_of (after q (c ∷ cs)) ≡ (made (after q cs) c).queue
  unfolding after
  left_is = fitted_is (made (after q cs) c).queue (leaves (after q cs) c).fit

  pub number_is_loads : (made (after q cs) c).reply.count ≡ (start_of q (c ∷ cs)).ring.count + length (loaded_by q (c ∷ cs))
  number_is_loads =
      (leaves (after q cs) c).count
      ∙ ap (λ (x : Queue). x.ring.count) (sym left_is)
      ∙ counted_is q long (c ∷ cs)

  -- Its own count added, for a fit record that nothing has emptied.
  pub own_number : Fit q.ring → emptied q.ring.kind (c ∷ cs) ≡ false
      → (made (after q cs) c).reply.count ≡ q.ring.count + length (loaded_by q (c ∷ cs))
  own_number f e = omega (arith, number_is_loads, ap (λ (x : Queue). x.ring.count) (start_same q f (c ∷ cs) e))

  -- Words wholly read: of the record that the calls began with the word being read is one, with its bytes already read.
  pub never_above :
      (made (after q cs) c).reply.count
      ≤ (start_of q (c ∷ cs)).ring.count - (start_of q (c ∷ cs)).ring.held
      + ((start_of q (c ∷ cs)).ring.taken + length (given_by q (c ∷ cs))) / 4
      + queue_depth q.ring.kind
  never_above =
      let told = (leaves (after q cs) c).count ∙ ap (λ (x : Queue). x.ring.count) (sym left_is) in
      omega (arith, told, bounded q long (c ∷ cs))

  -- Since an emptying, or from a record that is fresh or unfit: the loads in the history, and nothing else.
  module _ (fresh : start_of q (c ∷ cs) ≡ fresh_of q.ring.kind) where
    pub fresh_number : (made (after q cs) c).reply.count ≡ length (loaded_by q (c ∷ cs))
    fresh_number = omega (arith, number_is_loads, ap (λ (x : Queue). x.ring.count) fresh)

    pub fresh_never_above : (made (after q cs) c).reply.count ≤ length (given_by q (c ∷ cs)) / 4 + queue_depth q.ring.kind
    fresh_never_above =
        omega (
          arith,
          never_above,
          ap (λ (x : Queue). x.ring.count) fresh,
          ap (λ (x : Queue). x.ring.held) fresh,
          ap (λ (x : Queue). x.ring.taken) fresh,
        )
