-- What the two calls tell, from what the check tells: the setting's rows and those behind them are one table.
use Prim.Native.Nat.{ℕ, ◌+◌, ◌*◌, ◌-◌, ◌≤◌}
use mathlib.Core.List.{List, []}
use mathlib.Core.Path.{◌≡◌, sym, ◌∙◌}
use native.Mathlib.Nat.{add-sub_cancel_left}
use native.Mathlib.Omega.{arith}
use borrow.Author.Tests.{eqb-true, not-false}
use lib.ListN.{length, take, drop}
use denote.Ref.{Bor}
use Rattle.refusals.specs.Table.{given, judged, and_then, Passes}
use Rattle.refusals.specs.Refusals.{refusal}
use Rattle.registers.specs.Setting.{setting_of, video_words}
use Rattle.registers.specs.Check.{check_told}
use Rattle.registers.specs.declared.record.Registers.{Registers}
use Rattle.refusals.specs.declared.Refusal.{Refusal}
use Rattle.refusals.proofs.Tables.{passed, given_passes}
use Rattle.registers.proofs.Told.{check_then, check_passes}
use Rattle.registers.specs.inner.Accepted.{Accepted}
use Rattle.registers.proofs.Accepted.{accepted}
use Rattle.stretch.specs.Stretch.{stretch_of, raster_rows, stretch_table, stretch_told, PartOf}
use Rattle.stretch.specs.declared.found.Stretch.{Stretch}
use Rattle.stretch.proofs.Stretches.{stretch_room}
use Rattle.stretch.proofs.Told.{stretch_told_holds}

module _ (g : Registers) (video : List ℕ) (y : ℕ) where
  -- First the setting, then the rows behind it.
  pub stretch_then : stretch_told g video y ≡ and_then (check_told g) (λ s. judged (raster_rows s video y) (stretch_of s y))
  stretch_then = stretch_told_holds g video y ∙ check_then g (λ s. raster_rows s video y) (λ s. stretch_of s y)

  -- Where the table is passed, the setting is accepted and the list as long as it needs.
  pub passes_accepted : Passes (stretch_table g video y) → Accepted (setting_of g)
  passes_accepted p = let s = setting_of g in accepted g s (check_passes g (raster_rows s video y) p)

  passes_words : Passes (stretch_table g video y) → length video ≡ video_words (setting_of g)
  passes_words p = eqb-true (length video) (video_words (setting_of g)) (not-false _ (passed 11 (stretch_table g video y) p))

  -- A stretch that is given lies within the words.
  given_room : {p : Stretch} → stretch_told g video y ≡ given p → p.start + p.count ≤ length video
  given_room {p} h =
      let s = setting_of g in
      let w = given_passes (stretch_of s y) (stretch_table g video y) p (sym (stretch_told_holds g video y) ∙ h) in
      rw (← w.1, passes_words w.0) (stretch_room s y (passes_accepted w.0))

-- What is found lies within the words.
pub words_room : (g : Registers) (video : List ℕ) (y : ℕ) {p : Stretch} → given p ≡ stretch_told g video y → p.start + p.count ≤ length video
words_room g video y e = given_room g video y (sym e)

-- A part of the lent list by two ends of it: the stretch that is given, and an empty part at the list's front where the call is refused.
module _ (g : Registers) (list part : Bor (List ℕ)) (y : ℕ) (memory : part.ref_ptr.0 ≡ list.ref_ptr.0) where
  pub returned_none : (why : Refusal) → refusal why ≡ stretch_told g list.now y → part.now ≡ [] → part.ref_ptr.1 ≡ list.ref_ptr.1
      → PartOf list part (stretch_told g list.now y)
  returned_none why e words place = rw (← e) (record { words = words; memory = memory; place = omega (arith, place) })

  pub returned_stretch : {p : Stretch} → given p ≡ stretch_told g list.now y → part.now ≡ take (p.start + p.count - p.start) (drop p.start list.now)
      → part.ref_ptr.1 ≡ list.ref_ptr.1 + 4 * p.start → PartOf list part (stretch_told g list.now y)
  returned_stretch {p} e words place =
      let count : p.start + p.count - p.start ≡ p.count = add-sub_cancel_left p.start p.count in
      rw (← e) (record { words = rw count at words; memory = memory; place = place })
