-- Not refused exactly when every rule holds, and refused with 20 exactly when the first number above 4095 stands at the index.
use Prim.Native.Nat.{ℕ, ◌<◌, ◌≤◌}
use mathlib.Core.Bool.{false}
use mathlib.Core.List.{List}
use mathlib.Core.Logic.{◌↔◌, inl, inr}
use mathlib.Core.Path.{◌≡◌, refl, sym, ◌∙◌, ap}
use native.Mathlib.Omega.{arith}
use borrow.Author.Tests.{lt-ltb, le-ltb, ltb-true, ltb-false}
use lib.ListN.{get_or}
use Rattle.refusals.specs.Table.{Why, why, given, refused, Passes, First}
use Rattle.refusals.proofs.Tables.{◌⨾◌, passes_both, passes_first, passes_second, passes_given, given_passes}
use Rattle.refusals.proofs.Tables.{refused_first, first_refused, first_behind, behind_first}
use Rattle.registers.specs.Check.{setting_table}
use Rattle.registers.specs.Rules.{EveryRule}
use Rattle.registers.specs.Setting.{setting_of}
use Rattle.registers.specs.declared.record.Registers.{Registers}
use Rattle.registers.proofs.Exactly.{exactly}
use Rattle.registers.proofs.First.{lowest_passes, lowest_fails}
use Rattle.registers.proofs.Told.{check_told_holds}
use Rattle.mixing.specs.Mix.{too_large, first_too_large, mix_rows, mix_table, mix_told}
use Rattle.mixing.specs.Rules.{Judged, MixRules, TooLargeAt}
use Rattle.mixing.proofs.Calls.{short, long_enough, not_short, mix_told_holds}
use Rattle.mixing.proofs.Numbers.{all_few, first_at}

-- The setting's table is passed exactly when its rules hold.
module _ (g : Registers) where
  rules_pass : EveryRule g → Passes (setting_table g)
  rules_pass h = (given_passes (setting_of g) (setting_table g) (setting_of g) (sym (check_told_holds g) ∙ (exactly g).1 h)).0

  pass_rules : Passes (setting_table g) → EveryRule g
  pass_rules p = (exactly g).0 (check_told_holds g ∙ passes_given (setting_of g) (setting_table g) p)

-- Before the first number too large there is none.
few_before : (camera : List ℕ) (n x : ℕ) → x < first_too_large camera n → get_or camera x 0 ≤ 4095
few_before camera n x h = ltb-false 4095 (get_or camera x 0) (lowest_fails (too_large camera) n 0 x (omega arith) h)

module _ (g : Registers) (cells camera : List ℕ) (room : ℕ) where
  abbrev places : ℕ
  places = (setting_of g).n.0

  -- Row 13 is passed exactly by lists and an answer that are long enough.
  lists_short : Judged g cells camera room → short places cells camera room ≡ false
  lists_short j = not_short places cells camera room j.cells_long j.camera_long j.answer_long

  judged_by : EveryRule g → short places cells camera room ≡ false → Judged g cells camera room
  judged_by h e =
      let long = long_enough places cells camera room e in
      record { setting = h; cells_long = long.0; camera_long = long.1; answer_long = long.2 }

  pub mix_exactly : (mix_told g cells camera room ≡ given tt) ↔ MixRules g cells camera room
  mix_exactly = (to, from)
    where
      to : mix_told g cells camera room ≡ given tt → MixRules g cells camera room
      to e =
          let passes = (given_passes tt (mix_table g cells camera room) tt (sym (mix_told_holds g cells camera room) ∙ e)).0 in
          let rows = passes_second (setting_table g) (mix_rows places cells camera room) passes in
          let none : places ≤ first_too_large camera places = ltb-false (first_too_large camera places) places rows.1.0 in
          record {
            judged = judged_by (pass_rules g (passes_first (setting_table g) (mix_rows places cells camera room) passes)) rows.0;
            colours = λ x h. few_before camera places x (omega (arith, none));
          }

      from : MixRules g cells camera room → mix_told g cells camera room ≡ given tt
      from r =
          let none = all_few camera places r.colours in
          mix_told_holds g cells camera room
          ∙ passes_given tt (mix_table g cells camera room)
          (passes_both (setting_table g) (mix_rows places cells camera room) (rules_pass g r.judged.setting)
          (lists_short r.judged ⨾ le-ltb (first_too_large camera places) places (omega (arith, none)) ⨾ tt))

  pub too_large_exactly : (index : ℕ) → (mix_told g cells camera room ≡ refused (why 20 index)) ↔ TooLargeAt g cells camera room index
  too_large_exactly index = (to, from)
    where
      rows_at : Passes (setting_table g) → First (mix_rows places cells camera room) (why 20 index) → TooLargeAt g cells camera room index
      rows_at p (inl f) = absurd (omega (arith, ap (λ (w : Why). w.number) f.1))
      rows_at p (inr (e, inr (h, none))) = absurd none
      rows_at p (inr (e, inl (h, same))) =
          let i : first_too_large camera places ≡ index = ap (λ (w : Why). w.detail) same in
          let inside : first_too_large camera places < places = ltb-true (first_too_large camera places) places h in
          record {
            judged = judged_by (pass_rules g p) e;
            inside = omega (arith, i, inside);
            above = ltb-true 4095 (get_or camera index 0) (rw i at (lowest_passes (too_large camera) places 0 (omega (arith, inside))));
            first = λ x l. few_before camera places x (omega (arith, i));
          }

      to : mix_told g cells camera room ≡ refused (why 20 index) → TooLargeAt g cells camera room index
      to e =
          let first = refused_first tt (mix_table g cells camera room) (why 20 index) (sym (mix_told_holds g cells camera room) ∙ e) in
          let behind = first_behind (setting_table g) (mix_rows places cells camera room) (why 20 index) refl first in
          rows_at behind.0 behind.1

      from : TooLargeAt g cells camera room index → mix_told g cells camera room ≡ refused (why 20 index)
      from r =
          let i = first_at camera places index r.inside r.above r.first in
          mix_told_holds g cells camera room
          ∙ first_refused tt (mix_table g cells camera room) (why 20 index)
          (behind_first (setting_table g) (mix_rows places cells camera room) (why 20 index) (rules_pass g r.judged.setting)
          (inr (lists_short r.judged, inl (rw i (lt-ltb index places r.inside), ap (why 20) i))))
