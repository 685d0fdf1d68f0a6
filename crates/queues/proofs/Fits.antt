-- When a record is fit: the test and the facts say the same, what a call goes on with is always fit, and a fit record is taken as it is.
use Prim.Native.Nat.{ℕ, ◌≤◌}
use mathlib.Core.Bool.{Bool, true, false}
use mathlib.Core.Path.{◌≡◌, refl}
use native.Mathlib.Omega.{arith}
use Rattle.std.proofs.lemmas.Bool.Decides.{nat_tests}
use Rattle.buffers.specs.Pick.{pick}
use Rattle.queues.specs.Queue.{queue_depth, first_coming, fresh_ring, fresh_of, is_fit, Fit, fitted_of}
use Rattle.queues.specs.declared.Queue.{Queue}
use Rattle.queues.specs.declared.Ring.{Ring}

-- What holds of both, each where its test says so, holds of what is picked.
pub by_test : {A : Type 0} (P : A → Type 0) (t : Bool) {x y : A} → (t ≡ true → P x) → (t ≡ false → P y) → P (pick t x y)
by_test P true p q = p refl
by_test P false p q = q refl

pub deep_least : (kind : ℕ) → 4 ≤ queue_depth kind
deep_least kind = grind (arith, nat_tests)

pub deep_most : (kind : ℕ) → queue_depth kind ≤ 8
deep_most kind = grind (arith, nat_tests)

module _ (r : Ring) where
  pub fit_of : is_fit r ≡ true → Fit r
  fit_of e = record {
    place = grind (arith, nat_tests);
    held = grind (arith, nat_tests);
    coming = grind (arith, nat_tests);
    taken = grind (arith, nat_tests);
    none = grind (arith, nat_tests);
    count = grind (arith, nat_tests);
    deep = deep_most r.kind;
  }

  pub is_fit_holds : Fit r → is_fit r ≡ true
  is_fit_holds f = grind (arith, nat_tests)

pub fresh_coming : (kind : ℕ) → first_coming kind ≤ 4
fresh_coming kind = grind (arith, nat_tests)

pub fresh_fit : (kind : ℕ) → Fit (fresh_ring kind)
fresh_fit kind =
    let d = deep_least kind in
    record {
      place = omega arith;
      held = omega arith;
      coming = omega (arith, fresh_coming kind);
      taken = omega arith;
      none = omega arith;
      count = omega arith;
      deep = deep_most kind;
    }

module _ (q : Queue) where
  pub fitted_fit : Fit (fitted_of q).ring
  unfolding fitted_of
  fitted_fit = by_test (λ (x : Queue). Fit x.ring) (is_fit q.ring) (λ e. fit_of q.ring e) (λ e. fresh_fit q.ring.kind)

  pub fitted_is : Fit q.ring → fitted_of q ≡ q
  unfolding fitted_of
  fitted_is f = rw (is_fit_holds q.ring f)

  -- One that is not fit starts afresh, of its kind.
  pub fitted_fresh : is_fit q.ring ≡ false → fitted_of q ≡ fresh_of q.ring.kind
  unfolding fitted_of
  fitted_fresh e = rw e

  pub fitted_kind : (fitted_of q).ring.kind ≡ q.ring.kind
  unfolding fitted_of
  fitted_kind = by_test (λ (x : Queue). x.ring.kind ≡ q.ring.kind) (is_fit q.ring) (λ e. refl) (λ e. refl)
