-- What a load and a read tell is by their tables; refused, each leaves the record that it went on with.
use Prim.Native.Nat.{ℕ}
use mathlib.Core.Path.{◌≡◌}
use mathlib.Core.Logic.{inl, inr}
use Rattle.buffers.proofs.Split.{true_or_false}
use Rattle.refusals.specs.Table.{judged, unless_refused}
use Rattle.queues.specs.Queue.{fitted_of, is_full, is_empty, front_byte}
use Rattle.queues.specs.Steps.{load_fit, read_fit, load_of, read_of, load_table, read_table, reply_says, with_word, without_byte}
use Rattle.queues.specs.declared.Queue.{Queue}

module _ (q : Queue) (n : ℕ) where
  pub load_told_holds : reply_says (load_of q n).reply ≡ judged (load_table q) 0
  unfolding load_of load_fit
  load_told_holds = elim (true_or_false (is_full (fitted_of q).ring)) [ inl e ↦ rw e | inr e ↦ rw e ]

  pub read_told_holds : reply_says (read_of q n).reply ≡ judged (read_table q) (front_byte (fitted_of q))
  unfolding read_of read_fit
  read_told_holds = elim (true_or_false (is_empty (fitted_of q).ring)) [ inl e ↦ rw e | inr e ↦ rw e ]

  pub load_left : (load_of q n).queue ≡ unless_refused {A = ℕ} (judged (load_table q) 0) (fitted_of q) (with_word (fitted_of q) n)
  unfolding load_of load_fit
  load_left = elim (true_or_false (is_full (fitted_of q).ring)) [ inl e ↦ rw e | inr e ↦ rw e ]

  pub read_left : (read_of q n).queue
      ≡ unless_refused (judged (read_table q) (front_byte (fitted_of q))) (fitted_of q) (without_byte (fitted_of q) n)
  unfolding read_of read_fit
  read_left = elim (true_or_false (is_empty (fitted_of q).ring)) [ inl e ↦ rw e | inr e ↦ rw e ]
