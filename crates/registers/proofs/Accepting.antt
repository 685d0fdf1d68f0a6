-- Load and check, by its two parts: what the load refuses is never checked, and what it passes is told as the check of the loaded record tells it.
use Prim.Native.Nat.{ℕ, ◌≤◌}
use mathlib.Core.Path.{◌≡◌, refl, sym, ◌∙◌, ap}
use mathlib.Core.List.{List, [], ◌∷◌, ◌++◌}
use mathlib.Core.Logic.{◌↔◌}
use lib.ListN.{length}
use native.Mathlib.Omega.{arith}
use Rattle.std.specs.Prelude.{Result, Ok, Err}
use Rattle.refusals.specs.Table.{Told, given, refused, and_then, unless_refused}
use Rattle.refusals.specs.Refusals.{refusal, says}
use Rattle.refusals.specs.declared.Refusal.{Refusal}
use Rattle.refusals.proofs.Tables.{never, and_then_judged}
use Rattle.refusals.proofs.Told.{handed_on}
use Rattle.registers.specs.Load.{applied, load_table, load_told, leading}
use Rattle.registers.specs.Setting.{setting_of}
use Rattle.registers.specs.Check.{setting_table, check_told}
use Rattle.registers.specs.Sound.{sound_table, sound_told}
use Rattle.registers.specs.Accept.{accept_told, accept_sound_told, handed_back}
use Rattle.registers.specs.Rules.{Loadable, EveryRule}
use Rattle.registers.specs.declared.record.Registers.{Registers}
use Rattle.registers.specs.declared.setting.Setting.{Setting}
use Rattle.registers.specs.inner.Accepted.{Accepted}
use Rattle.registers.proofs.Accepted.{accepted}
use Rattle.registers.proofs.Exactly.{exactly}
use Rattle.registers.proofs.Halves.{loads_exactly, load_halves, halves_load, applied_halves}

module _ (g : Registers) (words : List ℕ) where
  pub accept_then : accept_told g words ≡ and_then (load_told words) (λ _. check_told (applied g words))
  unfolding accept_told load_told check_told
  accept_then = sym (and_then_judged tt (load_table words) (λ _. setting_table (applied g words)) (λ _. setting_of (applied g words)))

  pub accept_sound_then : accept_sound_told g words ≡ and_then (load_told words) (λ _. sound_told (applied g words))
  unfolding accept_sound_told load_told sound_told
  accept_sound_then = sym (and_then_judged tt (load_table words) (λ _. sound_table (applied g words)) (λ _. tt))

-- No words: the record is judged as it stands.
pub accept_none : (g : Registers) → accept_told g [] ≡ check_told g
unfolding accept_told check_told applied leading
accept_none g = refl

pub checked_as_it_stands : (g : Registers) (words : List ℕ) → length words ≡ 0 → accept_told g words ≡ check_told g
checked_as_it_stands g [] n = accept_none g
checked_as_it_stands g (w ∷ ws) n = absurd (omega arith)

-- and handed back as it was given either way.
pub handed_as_it_stands : {A : Type 0} (told : Told A) (g : Registers) (words : List ℕ) → length words ≡ 0 → handed_back told g words ≡ g
unfolding applied
handed_as_it_stands (given a) g [] n = refl
handed_as_it_stands (refused w) g [] n = refl
handed_as_it_stands told g (w ∷ ws) n = absurd (omega arith)

-- Accepted: the list can be loaded, and the record that it leaves is.
module _ (g : Registers) (words : List ℕ) (s : Setting) where
  pub accepted_both : accept_told g words ≡ given s → (load_told words ≡ given tt) × (check_told (applied g words) ≡ given s)
  accepted_both e = go (load_told words) (sym (accept_then g words) ∙ e)
    where
      go : (t : Told (Unit {0})) → and_then t (λ _. check_told (applied g words)) ≡ given s → (t ≡ given tt) × (check_told (applied g words) ≡ given s)
      go (given u) h = (refl, h)
      go (refused w) h = never (sym h)

  pub both_accepted : load_told words ≡ given tt → check_told (applied g words) ≡ given s → accept_told g words ≡ given s
  both_accepted e h = accept_then g words ∙ rw e h

-- What is given has what an accepted setting has.
pub given_accepted : (g : Registers) (words : List ℕ) (s : Setting) → given s ≡ accept_told g words → Accepted s
given_accepted g words s e = accepted (applied g words) s (accepted_both g words s (sym e)).1

pub accepted_sound : (g : Registers) (words : List ℕ) → accept_sound_told g words ≡ given tt → sound_told (applied g words) ≡ given tt
accepted_sound g words e = go (load_told words) (sym (accept_sound_then g words) ∙ e)
  where
    go : (t : Told (Unit {0})) → and_then t (λ _. sound_told (applied g words)) ≡ given tt → sound_told (applied g words) ≡ given tt
    go (given u) h = h
    go (refused w) h = never (sym h)

-- Accepted exactly when the list can be loaded and the record that it leaves keeps every rule.
pub accepts_exactly : (g : Registers) (words : List ℕ)
    → (accept_told g words ≡ given (setting_of (applied g words))) ↔ (Loadable words × EveryRule (applied g words))
accepts_exactly g words = (
  λ e. let p = accepted_both g words _ e in ((loads_exactly words).0 p.0, (exactly (applied g words)).0 p.1),
  λ h. both_accepted g words _ ((loads_exactly words).1 h.0) ((exactly (applied g words)).1 h.1),
)

-- In two halves: what is accepted whole is accepted of the first half's record, and the other way about where there are not too many words.
module _ (g : Registers) (xs ys : List ℕ) (s : Setting) where
  pub accept_second : accept_told g (xs ++ ys) ≡ given s → accept_told (applied g xs) ys ≡ given s
  accept_second e =
      let p = accepted_both g (xs ++ ys) s e in
      both_accepted (applied g xs) ys s (load_halves xs ys p.0).1 (rw (← applied_halves g xs ys) p.1)

  pub accept_whole : length (xs ++ ys) ≤ 1024 → load_told xs ≡ given tt → accept_told (applied g xs) ys ≡ given s → accept_told g (xs ++ ys) ≡ given s
  accept_whole few first e =
      let p = accepted_both (applied g xs) ys s e in
      both_accepted g (xs ++ ys) s (halves_load xs ys few first p.0) (rw (applied_halves g xs ys) p.1)

-- The record handed back, by what is told of the list and of the record that it leaves: as it was given on a refusal, else with the words applied.
module _ {A : Type 0} (g : Registers) (words : List ℕ) (told : Told A) (next : Registers → Told A)
    (follows : told ≡ and_then (load_told words) (λ _. next (applied g words))) (x : Result (Unit {0}) Refusal) (answers : says x ≡ load_told words) where
  pub unloaded : (w : Refusal) → x ≡ Err w → (refusal w ≡ told) × (g ≡ handed_back told g words)
  unloaded w q = let e : told ≡ refusal w = follows ∙ rw (← answers, q) in (sym e, rw e)

  pub loaded : x ≡ Ok tt → (r : Registers) → r ≡ applied g words → (t : Told A) → t ≡ next r
      → (t ≡ told) × (unless_refused t g r ≡ handed_back told g words)
  loaded q r left t n =
      let e : t ≡ told = n ∙ ap next left ∙ sym (follows ∙ rw (← answers, q)) in
      (e, rw (e, left))

-- the laws that the two calls stand on
pub ruleset load_and_check = (handed_on, accept_then, checked_as_it_stands, handed_as_it_stands)

pub ruleset load_and_check_sound = (handed_on, accept_sound_then)
