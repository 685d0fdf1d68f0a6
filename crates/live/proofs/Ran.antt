-- One tick more of a run: the bench's next step, and the call that it names.
use Rattle.std.proofs.Common.{◌≡◌, ℕ, ◌+◌, List, refl, sym, ap, ◌∙◌, add-one}
use Rattle.queues.specs.declared.Queue.{Queue}
use Rattle.queues.specs.declared.Reply.{Reply}
use Rattle.queues.specs.Steps.{load_of, read_of, vertical_of, ask_of}
use Rattle.live.specs.Bench.{called, call_of, next_of, told_of}
use Rattle.live.specs.Run.{Live, ticked, ran}
use Rattle.live.specs.declared.bench.Bench.{Bench}
use Rattle.live.specs.declared.bench.Call.{Call}
use Rattle.live.specs.declared.bench.Call.TheVariants.{VerticalSync, Ask, Load, Read}
use Rattle.live.specs.declared.bench.Row.{Row}

module _ (words : List ℕ) (first s : Live) (t : ℕ) (is : s ≡ ran words first t) where
  pub ran_next : (b : Bench) (call : Call) (told : List Row) → b ≡ next_of s.bench s.reply words s.told
      → call ≡ call_of s.bench s.reply words s.told → told ≡ told_of s.bench s.reply words s.told
      → (q : Queue) (reply : Reply) → (q ≡ (called call s.queue).queue) × (reply ≡ (called call s.queue).reply)
      → ◌≡◌ {A = Live} (record { queue = q; reply = reply; bench = b; told = told }) (ran words first (t + 1))
  unfolding ticked
  ran_next b call told next names notes q reply after =
      rw (after.0, after.1, names, next, notes) (ap (ticked words) is ∙ ap (ran words first) (sym (add-one t)))

-- What each call makes of a queue.
module _ (q : Queue) (n : ℕ) where
  pub calls_vertical : called (VerticalSync n) q ≡ vertical_of q n
  calls_vertical = refl

  pub calls_ask : called (Ask n) q ≡ ask_of q n
  calls_ask = refl

  pub calls_load : called (Load n) q ≡ load_of q n
  calls_load = refl

  pub calls_read : called (Read n) q ≡ read_of q n
  calls_read = refl
