-- What the calls of a history that was lived were answered, from their own promises, is what the account says.
use Prim.Native.Nat.{ℕ}
use mathlib.Core.List.{List, [], ◌∷◌}
use mathlib.Core.Logic.{inl, ⊎_elim}
use mathlib.Core.Path.{◌≡◌, refl, sym, ◌∙◌, ap}
use seplogic.Ra.Ura.{Ura}
use base.Logic.{SProp}
use contract.Lifetimes.{Lfts}
use contract.Monad.{Fun, fact}
use denote.Triple.Clauses.{AtExit}
use denote.Triple.Entry.{Args, Res}
use types.Logic.{Logic}
use prog.Memory.{Memory}
use prog.Routine.{Routine}
use lib.ListN.{length}
use Rattle.queues.specs.Queue.{fitted_of}
use Rattle.queues.specs.Steps.{load_of, read_of, vertical_of, ask_of}
use Rattle.queues.specs.declared.Queue.{Queue}
use Rattle.queues.specs.declared.Step.{Step}
use Rattle.queues.proofs.Thin.{lent_ended, lent_says}
use Rattle.queues.specs.contracts.lent.load as load_lent
use Rattle.queues.specs.contracts.lent.read as read_lent
use Rattle.queues.specs.contracts.lent.vertical_sync as vertical_lent
use Rattle.queues.specs.contracts.lent.ask as ask_lent
use Rattle.histories.specs.Calls.{QueueCall, load, read, vertical, ask, horizontal, ends, made, after, answers}
use Rattle.histories.specs.Account.{account_told}
use Rattle.histories.specs.Opens.{opens}
use Rattle.histories.specs.Lived.{Lent, Lived, LivedCall, left_by, Chain, calls_of, heard_of}
use Rattle.histories.proofs.Told.{told}

-- What the functions over a lent record promise, in every model, is just that.
module _ {M : Type 1} {𝓤 : Ura M} (𝓛 : Logic 𝓤) (mem : Memory → SProp 𝓤) (run : Routine → Fun 𝓤)
    (κs : Lfts 1) (a : Args lent_ended.signature κs) (r : Res lent_ended.signature κs) (s : AtExit lent_ended κs) where
  pub load_says : (load_lent.clauses 𝓛 mem run κs a).ensures tt r s ≡ fact 𝓤 (lent_says load_of κs a r s)
  load_says = refl

  pub read_says_holds : (read_lent.clauses 𝓛 mem run κs a).ensures tt r s ≡ fact 𝓤 (lent_says read_of κs a r s)
  read_says_holds = refl

  pub vertical_says : (vertical_lent.clauses 𝓛 mem run κs a).ensures tt r s ≡ fact 𝓤 (lent_says vertical_of κs a r s)
  vertical_says = refl

  pub ask_says : (ask_lent.clauses 𝓛 mem run κs a).ensures tt r s ≡ fact 𝓤 (lent_says ask_of κs a r s)
  ask_says = refl

step_is : (s t : Step) → s.queue ≡ t.queue → s.reply ≡ t.reply → s ≡ t
step_is s t p r = λ i. record { queue = p i; reply = r i }

lent_made : (means : Queue → ℕ → Step) (q : Queue) (n : ℕ) (s : Step) → Lent means q n s → s ≡ means q n
lent_made means q n s l =
    step_is s (means q n)
    (sym l.queue_is ∙ l.promise.0 ∙ rw (l.queue_was, l.number_was))
    (l.promise.1 ∙ rw (l.queue_was, l.number_was))

lived_made : (q : Queue) (c : QueueCall) (s : Step) → Lived q c s → s ≡ made q c
lived_made q (load w) s l = ⊎_elim (λ v. v.1) (λ v. lent_made load_of q w s v) l
lived_made q (read control) s l = ⊎_elim (λ v. v.1) (λ v. lent_made read_of q control s v) l
lived_made q (vertical raster) s l = ⊎_elim (λ v. v.1) (λ v. lent_made vertical_of q raster s v) l
lived_made q (ask words) s l = ⊎_elim (λ v. v.1) (λ v. lent_made ask_of q words s v) l
lived_made q (horizontal g y) s l = l.1
lived_made q (ends g y) s l = l.1

module _ (q : Queue) where
  lived_left : (xs : List LivedCall) → Chain q xs → left_by q xs ≡ after q (calls_of xs)
  unfolding after
  lived_left [] l = refl
  lived_left (x ∷ xs) l =
      ap (λ (s : Step). s.queue) (lived_made (left_by q xs) x.call x.step l.0)
      ∙ ap (λ (r : Queue). (made r x.call).queue) (lived_left xs l.1)

  pub lived_answers : (xs : List LivedCall) → Chain q xs → heard_of xs ≡ answers q (calls_of xs)
  unfolding answers
  lived_answers [] l = refl
  lived_answers (x ∷ xs) l =
      let reply = ap (λ (s : Step). s.reply) (lived_made (left_by q xs) x.call x.step l.0)
      ∙ ap (λ (r : Queue). (made r x.call).reply) (lived_left xs l.1) in
      rw (reply, lived_answers xs l.1)

  -- Whatever record it began with.
  pub lived_told : length q.words ≡ 8 → (xs : List LivedCall) → Chain q xs → heard_of xs ≡ account_told (opens (fitted_of q)) (calls_of xs)
  lived_told long xs l = lived_answers xs l ∙ told q long (calls_of xs)

-- And every history is one that can be lived: what is said of all that were is not said of none.
lives : (q : Queue) (c : QueueCall) → Lived q c (made q c)
lives q (load w) = inl ((q, (w, tt)), refl)
lives q (read control) = inl ((q, (control, tt)), refl)
lives q (vertical raster) = inl ((q, (raster, tt)), refl)
lives q (ask words) = inl ((q, (words, tt)), refl)
lives q (horizontal g y) = ((q, (g, (y, tt))), refl)
lives q (ends g y) = ((q, (g, (y, tt))), refl)

lived_of : Queue → List QueueCall → List LivedCall
lived_of q [] = []
lived_of q (c ∷ cs) = record { call = c; step = made (left_by q (lived_of q cs)) c } ∷ lived_of q cs

lived_chain : (q : Queue) (cs : List QueueCall) → (calls_of (lived_of q cs) ≡ cs) × Chain q (lived_of q cs)
unfolding lived_of
lived_chain q [] = (refl, tt)
lived_chain q (c ∷ cs) = let h = lived_chain q cs in (ap (λ (l : List QueueCall). c ∷ l) h.0, (lives (left_by q (lived_of q cs)) c, h.1))

pub every_lives : (q : Queue) (cs : List QueueCall) → (xs : List LivedCall) × (calls_of xs ≡ cs) × Chain q xs
every_lives q cs = let h = lived_chain q cs in (lived_of q cs, h.0, h.1)
