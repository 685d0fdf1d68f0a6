-- What a right trailer gives.
use mathlib.Core.Path.{◌≡◌}
use mathlib.Core.Bool.{true, ◌&&◌}
use Prim.Native.Nat.{ℕ, ◌+◌, ◌*◌, ◌≤◌}
use lib.Dec.{leb, eqb}
use borrow.Author.Tests.{leb-true, eqb-true}
use Rattle.std.proofs.lemmas.Bool.{and_parts}
use Rattle.plates.specs.Plate.{trailer_rule}

pub record Ordered (n r v c s : ℕ) : Type 0 where
  pub v_r : v ≤ r
  pub c_v : c ≤ v
  pub s_c : s ≤ c
  pub whole : 4 * r + 16 ≡ n

pub ordered : (n r v c s : ℕ) → trailer_rule n r v c s ≡ true → Ordered n r v c s
ordered n r v c s e =
    let whole = and_parts (leb v r && leb c v && leb s c) (eqb (4 * r + 16) n) e in
    let three = and_parts (leb v r && leb c v) (leb s c) whole.0 in
    let two = and_parts (leb v r) (leb c v) three.0 in
    record {
      v_r = leb-true v r two.0;
      c_v = leb-true c v two.1;
      s_c = leb-true s c three.1;
      whole = eqb-true (4 * r + 16) n whole.1;
    }
