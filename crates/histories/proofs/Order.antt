-- The bytes given since the last emptying are, in order, the first bytes of the words loaded since: no room that is used again changes that.
use Prim.Native.Nat.{ℕ}
use mathlib.Core.List.{List, [], ◌++◌, append_assoc}
use mathlib.Core.Path.{◌≡◌, refl, sym, ◌∙◌, ap}
use lib.ListN.{length, take, drop, take-append-drop}
use lib.Seq.{take-append_seam, drop-append_seam}
use Rattle.buffers.specs.Words.{bytes_of}
use Rattle.buffers.proofs.Words.{bytes_append}
use Rattle.queues.specs.Queue.{fresh_of, fitted_of}
use Rattle.queues.specs.declared.Queue.{Queue}
use Rattle.histories.specs.Calls.{QueueCall, after}
use Rattle.histories.specs.Since.{loaded_by, given_by, start_of}
use Rattle.histories.specs.Opens.{ring_from, held_words, bytes_left}
use Rattle.histories.proofs.Told.{agrees}
use Rattle.histories.proofs.Stretch.{stretch_of_holds}

behind_front : (xs ys zs : List ℕ) → xs ++ ys ≡ xs ++ zs → ys ≡ zs
behind_front xs ys zs e = sym (drop-append_seam xs ys) ∙ ap (drop (length xs)) e ∙ drop-append_seam xs zs

fresh_left : (kind : ℕ) → bytes_left (fresh_of kind) ≡ []
unfolding ring_from bytes_of
fresh_left kind = refl

module _ (q : Queue) (long : length q.words ≡ 8) (cs : List QueueCall) where
  -- What was given and what is left to read are together what was left at the start and what was loaded since: nothing is lost, nothing added.
  pub nothing_lost : given_by q cs ++ bytes_left (fitted_of (after q cs)) ≡ bytes_left (start_of q cs) ++ bytes_of (loaded_by q cs)
  nothing_lost =
      let s = start_of q cs in
      let t = s.ring.taken in
      let held = bytes_of (held_words s) in
      let g = stretch_of_holds q long cs in
      let left = bytes_left (fitted_of (after q cs)) in
      let more = bytes_of (loaded_by q cs) in
      behind_front (take t held) (given_by q cs ++ left) (drop t held ++ more)
      (sym (append_assoc (take t held) (given_by q cs) left)
      ∙ ap (λ (l : List ℕ). l ++ left) (sym g.given)
      ∙ (agrees q long cs).order
      ∙ ap bytes_of g.loaded
      ∙ bytes_append (held_words s) (loaded_by q cs)
      ∙ ap (λ (l : List ℕ). l ++ more) (sym (take-append-drop t held))
      ∙ append_assoc (take t held) (drop t held) more)

  pub bytes_in_order : given_by q cs ≡ take (length (given_by q cs)) (bytes_left (start_of q cs) ++ bytes_of (loaded_by q cs))
  bytes_in_order = sym (take-append_seam (given_by q cs) (bytes_left (fitted_of (after q cs)))) ∙ ap (take (length (given_by q cs))) nothing_lost

  -- Since an emptying, or from a record that is fresh or unfit.
  pub fresh_in_order : start_of q cs ≡ fresh_of q.ring.kind → given_by q cs ≡ take (length (given_by q cs)) (bytes_of (loaded_by q cs))
  fresh_in_order e =
      let n = length (given_by q cs) in
      let more = bytes_of (loaded_by q cs) in
      bytes_in_order ∙ ap (λ (x : Queue). take n (bytes_left x ++ more)) e ∙ ap (λ (l : List ℕ). take n (l ++ more)) (fresh_left q.ring.kind)
