-- The lowest slot at fault.
use Rattle.std.specs.Prelude.{ℕ, zero, suc, Bool, Option, Some, None, ltb}
use Rattle.buffers.specs.Pick.{pick}

-- The lowest of n slots from k on that passes a test, or k + n where none does.
unfoldable pub lowest : (ℕ → Bool) → ℕ → ℕ → ℕ
lowest test zero k = k
lowest test (suc n) k = pick (test k) k (lowest test n (suc k))

-- The lowest of the 64 slots that passes a test, where one does.
abbrev pub lowest_slot : (ℕ → Bool) → Option ℕ
lowest_slot test = pick (ltb (lowest test 64 0) 64) (Some (lowest test 64 0)) None
