-- A depth is one of the four in one way only. No public promise reaches this.
use Rattle.std.specs.Prelude.{ℕ, ◌≡◌}
use Rattle.std.specs.Coded.{Coded-set, coded_ℕ}
use Rattle.std.proofs.Common.{ap, inl, inr, arith}
use Rattle.registers.specs.inner.Accepted.{Depth}

same : (d n : ℕ) → IsProp (d ≡ n)
same d n = Coded-set coded_ℕ d n

pub depth_prop : (d : ℕ) → IsProp (Depth d)
depth_prop d (inl a) (inl b) = ap inl (same d 1 a b)
depth_prop d (inr (inl a)) (inr (inl b)) = ap (λ e. inr (inl e)) (same d 2 a b)
depth_prop d (inr (inr (inl a))) (inr (inr (inl b))) = ap (λ e. inr (inr (inl e))) (same d 4 a b)
depth_prop d (inr (inr (inr a))) (inr (inr (inr b))) = ap (λ e. inr (inr (inr e))) (same d 8 a b)
depth_prop d (inl a) (inr (inl b)) = absurd (omega arith)
depth_prop d (inl a) (inr (inr (inl b))) = absurd (omega arith)
depth_prop d (inl a) (inr (inr (inr b))) = absurd (omega arith)
depth_prop d (inr (inl a)) (inl b) = absurd (omega arith)
depth_prop d (inr (inl a)) (inr (inr (inl b))) = absurd (omega arith)
depth_prop d (inr (inl a)) (inr (inr (inr b))) = absurd (omega arith)
depth_prop d (inr (inr (inl a))) (inl b) = absurd (omega arith)
depth_prop d (inr (inr (inl a))) (inr (inl b)) = absurd (omega arith)
depth_prop d (inr (inr (inl a))) (inr (inr (inr b))) = absurd (omega arith)
depth_prop d (inr (inr (inr a))) (inl b) = absurd (omega arith)
depth_prop d (inr (inr (inr a))) (inr (inl b)) = absurd (omega arith)
depth_prop d (inr (inr (inr a))) (inr (inr (inl b))) = absurd (omega arith)
