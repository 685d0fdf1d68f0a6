-- The call from the check on: refused with the setting, refused by a row of its own, or laid. The setting's table with those rows behind
-- it is the call's own, and where the call is refused the lent answer is as it was.
use Prim.Native.Nat.{ℕ, ◌+◌, ◌-◌, ◌<◌, ◌≤◌}
use mathlib.Core.Bool.{Bool, true, false, ◌||◌}
use mathlib.Core.List.{List, ◌++◌}
use mathlib.Core.Path.{◌≡◌, refl, sym, ap, ◌∙◌}
use native.Mathlib.Omega.{arith}
use borrow.Author.Tests.{lt-ltb, le-ltb, ltb-false}
use lib.Dec.{ltb}
use lib.ListN.{length, take, drop, get_or, length-append, length-drop, get_or-append}
use lib.Seq.{get_or-take, length-take-le}
use Rattle.std.proofs.lemmas.List.{get_or-append_right, get_or-drop}
use Rattle.buffers.specs.Painted.{painted}
use Rattle.buffers.proofs.Paints.{paints_painted}
use Rattle.buffers.proofs.Tests.{or_neither}
use Rattle.refusals.specs.Table.{Told, Why, why, given, refused, judged, and_then, unless_refused}
use Rattle.refusals.proofs.Tables.{given_passes}
use Rattle.registers.specs.Check.{setting_table, check_told}
use Rattle.registers.specs.Setting.{setting_of}
use Rattle.registers.specs.declared.record.Registers.{Registers}
use Rattle.registers.specs.declared.setting.Setting.{Setting}
use Rattle.registers.proofs.Told.{check_told_holds, check_then}
use Rattle.mixing.specs.Mix.{first_too_large, mix_rows, mix_table, mix_told, mix_leaves, mixed_at}
use Rattle.mixing.specs.inner.First.{AllFew, FirstLarge}
use Rattle.mixing.proofs.Numbers.{all_few, first_at}

-- The call's own rows, for a raster of n cells.
module _ (n : ℕ) (cells camera : List ℕ) (room : ℕ) where
  abbrev pub short : Bool
  short = ltb (length cells) n || ltb (length camera) n || ltb room n

  abbrev told : Told (Unit {0})
  told = judged (mix_rows n cells camera room) tt

  -- Too few cells, camera numbers or places: 13, whatever the camera's numbers are.
  pub told_short : short ≡ true → refused (why 13 0) ≡ told
  told_short e = rw e

  module _ (e : short ≡ false) where
    pub long_enough : (n ≤ length cells) × (n ≤ length camera) × (n ≤ room)
    long_enough =
        let both = or_neither (ltb (length cells) n || ltb (length camera) n) (ltb room n) e in
        let lists = or_neither (ltb (length cells) n) (ltb (length camera) n) both.0 in
        (ltb-false _ _ lists.0, ltb-false _ _ lists.1, ltb-false _ _ both.1)

  module _ (a : n ≤ length cells) (b : n ≤ length camera) (c : n ≤ room) where
    pub not_short : short ≡ false
    not_short = rw (le-ltb (length cells) n a, le-ltb (length camera) n b, le-ltb room n c)

    -- The first n numbers of the camera.
    taken : (k : ℕ) → k < n → get_or (take n camera) k 0 ≡ get_or camera k 0
    taken k h = get_or-take n camera k 0 h

    pub told_large : (i : ℕ) → FirstLarge (take n camera) i → refused (why 20 i) ≡ told
    told_large i f =
        let inside : i < n = omega (arith, f.inside, length-take-le n camera b) in
        let at = first_at camera n i inside (rw taken at f.above) (λ k h. rw (← taken k (omega arith)) (f.first k h)) in
        rw (not_short, at, lt-ltb i n inside)

    pub told_laid : AllFew (take n camera) → given tt ≡ told
    told_laid few =
        let none = all_few camera n (λ k h. rw (← taken k h) (few k (rw length-take-le h))) in
        rw (not_short, ← none, le-ltb n n (omega arith))

  -- Where nothing is too short, 20 at the first number too large.
  pub told_first : short ≡ false → (first : ℕ) → first ≡ first_too_large camera n → first < n → refused (why 20 first) ≡ told
  told_first e first f h = rw (e, ← f, lt-ltb first n h)

-- The first n places laid, and the others as they were.
module _ (n : ℕ) (cells camera out new : List ℕ) where
  pub laid : n ≤ length out → length new ≡ n
      → ((k : ℕ) → k < length new → get_or new k 0 ≡ mixed_at (take n cells) (take n camera) k)
      → new ++ drop n out ≡ painted out 0 n (mixed_at cells camera)
  laid room long each =
      paints_painted room
      record {
        len = simp (length-append, length-drop) (omega arith);
        low = λ k h. absurd (omega arith);
        on = λ k h t. get_or-append new _ 0 k (omega arith) ∙ each k (omega arith) ∙ rw (get_or-take n cells k 0 t, get_or-take n camera k 0 t);
        high = rest;
      }
    where
      rest : (k : ℕ) → n ≤ k → get_or (new ++ drop n out) k 0 ≡ get_or out k 0
      rest k h =
          get_or-append_right new _ n k 0 long h ∙ get_or-drop n out (k - n) 0
          ∙ ap (λ (i : ℕ). get_or out i 0) (let q : n + (k - n) ≡ k = omega arith in q)

-- What it tells is its whole table judged: first the setting's rows, then those.
module _ (g : Registers) (cells camera : List ℕ) where
  pub mix_told_holds : (room : ℕ) → mix_told g cells camera room ≡ judged (mix_table g cells camera room) tt
  unfolding mix_told
  mix_told_holds room = refl

  pub mix_then : (room : ℕ) → mix_told g cells camera room ≡ and_then (check_told g) (λ s. judged (mix_rows s.n.0 cells camera room) tt)
  mix_then room = mix_told_holds room ∙ check_then g (λ s. mix_rows s.n.0 cells camera room) (λ s. tt)

  module _ (o : List ℕ) where
    pub mix_refused : (w : Why) → check_told g ≡ refused w → (refused w ≡ mix_told g cells camera (length o)) × (o ≡ mix_leaves g cells camera o)
    unfolding mix_leaves
    mix_refused w e = (rw (mix_then, e), rw (mix_then, e))

    pub mix_judged : (s : Setting) → check_told g ≡ given s → (t : Told (Unit {0})) (p : List ℕ)
        → t ≡ judged (mix_rows s.n.0 cells camera (length o)) tt
        → p ≡ unless_refused t o (painted o 0 s.n.0 (mixed_at cells camera))
        → (t ≡ mix_told g cells camera (length o)) × (p ≡ mix_leaves g cells camera o)
    unfolding mix_leaves
    mix_judged s e t p told left =
        let own : setting_of g ≡ s = (given_passes (setting_of g) (setting_table g) s (sym (check_told_holds g) ∙ e)).1 in
        let same : t ≡ mix_told g cells camera (length o) = told ∙ rw (mix_then, e) in
        (same, rw (← same, own) left)
