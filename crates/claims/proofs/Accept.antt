-- Load and check, of every run that the call's own promise permits: when a list is accepted, which record is handed back, and a list in two halves. And
-- that there is a run.
use Prim.Native.Nat.{ℕ, ◌≤◌}
use mathlib.Core.Path.{◌≡◌, refl, sym, ◌∙◌, ap}
use mathlib.Core.List.{List, [], ◌++◌, append-nil}
use mathlib.Core.Logic.{◌↔◌}
use mathlib.Core.Bool.{false}
use lib.ListN.{length}
use Rattle.refusals.specs.Table.{Why, given, refused, Row, and_then}
use Rattle.refusals.proofs.Tables.{has_number, first_behind, behind_first, passes_given, given_passes, refused_first, first_refused}
use Rattle.registers.specs.Load.{applied, load_table, load_told}
use Rattle.registers.specs.Setting.{setting_of}
use Rattle.registers.specs.Check.{setting_table, check_told}
use Rattle.registers.specs.Accept.{accept_told}
use Rattle.registers.specs.Rules.{Loadable, EveryRule}
use Rattle.registers.specs.declared.record.Registers.{Registers}
use Rattle.registers.specs.declared.setting.Setting.{Setting}
use Rattle.std.specs.Prelude.{Ok}
use Rattle.registers.proofs.Told.{check_told_holds}
use Rattle.registers.proofs.Halves.{load_halves, applied_halves}
use Rattle.registers.proofs.Accepting.{accept_then, accept_second, accept_whole, accepted_both, accepts_exactly}
use Rattle.claims.specs.Calls.{Every, Ran, OneOf, setting_numbers}
use Rattle.claims.specs.Views as call
use Rattle.claims.specs.Views.{AcceptRun}
use Rattle.claims.specs.Accept.{InHalves}
use Rattle.claims.proofs.Tables.{by_table}
use Rattle.claims.proofs.Runs.{lent, lent_out}

-- A list is accepted exactly when it can be loaded and the record that it leaves keeps every rule.
pub accepted_exactly : Every call.load_and_check λ run.
    (run.answer ≡ given (setting_of (applied run.registers run.words))) ↔ (Loadable run.words × EveryRule (applied run.registers run.words))
accepted_exactly κs a x s p =
    let run : AcceptRun = (call.load_and_check).seen κs a x s in
    let rules = accepts_exactly run.registers run.words in
    (λ e. rules.0 (sym p.0 ∙ e), λ h. p.0 ∙ rules.1 h)

-- The accepted record has every word applied.
pub handed_applied : Every call.load_and_check λ run. (t : Setting) → run.answer ≡ given t → run.handed ≡ applied run.registers run.words
handed_applied κs a x s p t e = p.1 ∙ rw (sym p.0 ∙ e)

-- Where a list is accepted, so is what is left of it behind some words, of the record with those applied: one by one, or by a call before. The record
-- is the same.
pub rest_accepted : Every call.load_and_check λ whole. Every call.load_and_check λ rest. (first : List ℕ)
    → whole.words ≡ first ++ rest.words → rest.registers ≡ applied whole.registers first → (t : Setting) → whole.answer ≡ given t
    → (rest.answer ≡ given t) × (rest.handed ≡ whole.handed)
rest_accepted κs a x s p κs' a' x' s' p' first words start t e =
    let whole : AcceptRun = (call.load_and_check).seen κs a x s in
    let rest : AcceptRun = (call.load_and_check).seen κs' a' x' s' in
    let told : accept_told whole.registers (first ++ rest.words) ≡ given t = ap (accept_told whole.registers) (sym words) ∙ sym p.0 ∙ e in
    let given_rest : rest.answer ≡ given t =
    p'.0 ∙ ap (λ (g : Registers). accept_told g rest.words) start ∙ accept_second whole.registers first rest.words t told in
    let same : applied rest.registers rest.words ≡ applied whole.registers whole.words =
    ap (λ (g : Registers). applied g rest.words) start ∙ sym (applied_halves whole.registers first rest.words)
    ∙ ap (applied whole.registers) (sym words) in
    (given_rest, handed_applied κs' a' x' s' p' t given_rest ∙ same ∙ sym (handed_applied κs a x s p t e))

-- In two halves: where the first call is not refused, the second accepts with the same setting, and hands back the same record,
pub in_two_halves : Every call.load_and_check λ whole. Every call.load_and_check λ first. Every call.load_and_check λ second.
    InHalves whole first second → (t u : Setting) → whole.answer ≡ given t → first.answer ≡ given u
    → (second.answer ≡ given t) × (second.handed ≡ whole.handed)
in_two_halves κs a x s p κs' a' x' s' p' κs'' a'' x'' s'' p'' halves t u e f =
    let first : AcceptRun = (call.load_and_check).seen κs' a' x' s' in
    rest_accepted κs a x s p κs'' a'' x'' s'' p'' first.words halves.words_are
    (halves.second_record ∙ handed_applied κs' a' x' s' p' u f ∙ ap (λ (g : Registers). applied g first.words) halves.first_record) t e

-- and so the other way about, where there are not too many words.
pub from_two_halves : Every call.load_and_check λ whole. Every call.load_and_check λ first. Every call.load_and_check λ second.
    InHalves whole first second → length whole.words ≤ 1024 → (t u : Setting) → first.answer ≡ given u → second.answer ≡ given t
    → (whole.answer ≡ given t) × (whole.handed ≡ second.handed)
from_two_halves κs a x s p κs' a' x' s' p' κs'' a'' x'' s'' p'' halves few t u f e =
    let whole : AcceptRun = (call.load_and_check).seen κs a x s in
    let first : AcceptRun = (call.load_and_check).seen κs' a' x' s' in
    let second : AcceptRun = (call.load_and_check).seen κs'' a'' x'' s'' in
    let g = whole.registers in
    let start : second.registers ≡ applied g first.words =
    halves.second_record ∙ handed_applied κs' a' x' s' p' u f ∙ ap (λ (g : Registers). applied g first.words) halves.first_record in
    let loads = (accepted_both first.registers first.words u (sym p'.0 ∙ f)).0 in
    let told : accept_told (applied g first.words) second.words ≡ given t =
    ap (λ (g : Registers). accept_told g second.words) (sym start) ∙ sym p''.0 ∙ e in
    let given_whole : whole.answer ≡ given t =
    p.0 ∙ ap (accept_told g) halves.words_are ∙ accept_whole g first.words second.words t (rw halves.words_are at few) loads told in
    (given_whole, sym (in_two_halves κs a x s p κs' a' x' s' p' κs'' a'' x'' s'' p'' halves t u given_whole f).1)

-- A refusal that the load does not give is given exactly when the list can be loaded and the record that it leaves is refused so.
pub refused_by_check : (g : Registers) (words : List ℕ) (w : Why) → has_number w.number (load_table words) ≡ false
    → (accept_told g words ≡ refused w) ↔ ((load_told words ≡ given tt) × (check_told (applied g words) ≡ refused w))
unfolding accept_told load_told check_told
refused_by_check g words w other =
    let s : Setting = setting_of (applied g words) in
    let first : List Row = load_table words in
    let then : List Row = setting_table (applied g words) in (
      λ e. let f = first_behind first then w other (refused_first s (first ++ then) w e) in (passes_given tt first f.0, first_refused s then w f.1),
      λ h. first_refused s (first ++ then) w (behind_first first then w (given_passes tt first tt h.0).0 (refused_first s then w h.1)),
    )

-- A first half that is refused is refused by its check alone, and nothing is lost: its record is the one it was given.
check_alone : (g : Registers) (words : List ℕ) (w : Why) → load_told words ≡ given tt → accept_told g words ≡ refused w
    → OneOf w.number setting_numbers
check_alone g words w l e =
    let told : check_told (applied g words) ≡ refused w = sym (accept_then g words ∙ ap (λ t. and_then t (λ _. check_told (applied g words))) l) ∙ e in
    (by_table (setting_of (applied g words)) (setting_table (applied g words)) (check_told_holds (applied g words))).refused_with w told

pub first_half_refused : Every call.load_and_check λ whole. Every call.load_and_check λ first. (rest : List ℕ)
    → whole.words ≡ first.words ++ rest → (t : Setting) → whole.answer ≡ given t → (w : Why) → first.answer ≡ refused w
    → OneOf w.number setting_numbers × (first.handed ≡ first.registers)
first_half_refused κs a x s p κs' a' x' s' p' rest words t e w f =
    let whole : AcceptRun = (call.load_and_check).seen κs a x s in
    let first : AcceptRun = (call.load_and_check).seen κs' a' x' s' in
    let both = (accepted_both whole.registers whole.words t (sym p.0 ∙ e)).0 in
    let loads = (load_halves first.words rest (ap load_told (sym words) ∙ both)).0 in
    (check_alone first.registers first.words w loads (sym p'.0 ∙ f), p'.1 ∙ rw (sym p'.0 ∙ f))

-- An accepted record is accepted as it stands, with no words: so every picture call judges it.
pub accepted_stands : Every call.load_and_check λ run. Every call.load_and_check λ again. again.words ≡ [] → again.registers ≡ run.handed
    → (t : Setting) → run.answer ≡ given t → (again.answer ≡ given t) × (again.handed ≡ run.handed)
accepted_stands κs a x s p κs' a' x' s' p' none start t e =
    let run : AcceptRun = (call.load_and_check).seen κs a x s in
    rest_accepted κs a x s p κs' a' x' s' p' run.words (sym (append-nil run.words) ∙ ap (λ (l : List ℕ). run.words ++ l) (sym none))
    (start ∙ handed_applied κs a x s p t e) t e

-- Asked rightly, there is a run: what is said of every run is not said of none.
pub accept_run : (g : Registers) (words : List ℕ) → Loadable words → EveryRule (applied g words)
    → Ran call.load_and_check (record { registers = g; words = words; answer = given (setting_of (applied g words)); handed = applied g words })
unfolding lent lent_out
accept_run g words l r =
    let told = (accepts_exactly g words).1 (l, r) in
    record {
      lifetimes = ([], ([], tt));
      arguments = (lent_out g, (lent words, tt));
      answer = Ok (setting_of (applied g words));
      exit = (lent_out (applied g words), (lent words, tt));
      promise = (sym told, rw told);
      is = refl;
    }
