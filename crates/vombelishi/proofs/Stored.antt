-- Numbers stored from the first place on: the slice begins with them, and is behind them as it was.
use Rattle.std.proofs.Common.{◌≡◌, ◌+◌, ◌≤◌, List, ◌++◌, length, drop, arith}
use Rattle.std.proofs.lemmas.List.Edits.{sets, sets-eq}

pub sets_front : {A : Type 0} (vs l : List A) → length vs ≤ length l → sets l 0 vs ≡ vs ++ drop (length vs) l
sets_front vs l h =
    let e : 0 + length vs ≡ length vs = omega arith in
    rw e at (sets-eq vs l 0 (omega arith))
