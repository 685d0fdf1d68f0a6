-- Texts stored in lent memory: one that fits, none, and one behind another.
use Prim.Native.Nat.{ℕ, ◌<◌, ◌≤◌}
use mathlib.Core.Path.{◌≡◌, refl, sym, ◌∙◌, ap}
use mathlib.Core.List.{List, [], ◌++◌}
use native.Mathlib.Omega.{arith}
use borrow.Author.Tests.{lt-ltb, le-ltb}
use lib.ListN.{length, length-append}
use lib.Seq.{sets, length-sets}
use Rattle.buffers.specs.Put.{Put, text_in}
use Rattle.buffers.proofs.Sets.{sets_append}

-- a text that does not fit, and one that does
module _ (room : ℕ) (text : List ℕ) where
  pub text_short : room < length text → text_in room text ≡ []
  unfolding text_in
  text_short h = rw (lt-ltb room (length text) h)

  pub text_fits : length text ≤ room → text_in room text ≡ text
  unfolding text_in
  text_fits h = rw (le-ltb room (length text) h)

-- all of a text stored from the first place on
pub put_text : (o n text : List ℕ) (r : ℕ) → r ≡ length text → r ≤ length o → n ≡ sets o 0 text → Put o n 0 (text_in (length o) text) r
put_text o n text r e h s = rw (text_fits (length o) text (omega (arith, e))) (record { stored = s; after = omega (arith, e); inside = h })

pub put_nothing : (o : List ℕ) → Put o o 0 [] 0
put_nothing o = record { stored = refl; after = refl; inside = omega arith }

pub put_then : {o p q : List ℕ} {at x y : ℕ} (a b : List ℕ) → Put o p at a x → Put p q x b y → Put o q at (a ++ b) y
put_then {o} {p} {q} {at} a b s t =
    record {
      stored = t.stored ∙ (rw (s.stored, s.after) (sym (sets_append _ _ a b)));
      after = rw length-append (omega (arith, s.after, t.after));
      inside = omega (arith, t.inside, ap length s.stored ∙ length-sets o at a);
    }
