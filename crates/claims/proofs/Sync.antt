-- Horizontal sync and the cursor, of every run that load and check's own promise permits: 19 exactly when, and the shortest sync at each pixel rate.
use Prim.Native.Nat.{ℕ, zero, suc, ◌+◌, ◌*◌, ◌<◌, ◌≤◌}
use mathlib.Core.Path.{◌≡◌, refl, sym, ◌∙◌}
use mathlib.Core.Bool.{true, false}
use mathlib.Core.List.{[], ◌∷◌}
use mathlib.Core.Logic.{◌↔◌, ◌≢◌}
use native.Mathlib.Omega.{arith}
use lib.ListN.{get_or}
use Rattle.buffers.proofs.Tests.{no}
use Rattle.refusals.specs.Table.{why, given, refused}
use Rattle.refusals.proofs.Tables.{◌⨾◌}
use Rattle.registers.specs.Addresses.{HSWR}
use Rattle.registers.specs.Control.{control, rate_field, pixel_rate}
use Rattle.registers.specs.Geometry.{ten_bits}
use Rattle.registers.specs.Record.{reserved, stored_of}
use Rattle.registers.specs.Load.{leading, applied}
use Rattle.registers.specs.Lowest.{lowest}
use Rattle.registers.specs.Setting.{setting_of}
use Rattle.registers.specs.Accept.{accept_told}
use Rattle.registers.specs.Rules.{Loadable, SyncTooShort}
use Rattle.registers.specs.declared.record.Registers.{Registers}
use Rattle.registers.proofs.Exactly.{too_short_exactly}
use Rattle.registers.proofs.Halves.{loads_exactly}
use Rattle.claims.specs.Calls.{Every}
use Rattle.claims.specs.Views as call
use Rattle.claims.specs.Views.{AcceptRun}
use Rattle.claims.specs.Marked.{AllHold}
use Rattle.claims.specs.Sync.{least_sync, sync_cases}
use Rattle.claims.proofs.Accept.{accepted_exactly, refused_by_check}

-- 19 exactly when the list can be loaded and its record keeps the rules before 19, the cursor is on and 6·HS < 5·f.
pub sync_refused : Every call.load_and_check λ run.
    (run.answer ≡ refused (why 19 0)) ↔ (Loadable run.words × SyncTooShort (applied run.registers run.words))
sync_refused κs a x s p =
    let run : AcceptRun = (call.load_and_check).seen κs a x s in
    let g = applied run.registers run.words in
    let rule = refused_by_check run.registers run.words (why 19 0) refl in (
      λ e. let both = rule.0 (sym p.0 ∙ e) in ((loads_exactly run.words).0 both.0, (too_short_exactly g).0 both.1),
      λ h. p.0 ∙ rule.1 ((loads_exactly run.words).1 h.0, (too_short_exactly g).1 h.1),
    )

-- With the cursor off it is never answered.
pub cursor_off_never : Every call.load_and_check λ run.
    (setting_of (applied run.registers run.words)).cursor ≡ false → run.answer ≢ refused (why 19 0)
cursor_off_never κs a x s p off e = no (sym off ∙ ((sync_refused κs a x s p).0 e).1.cursor_on)

-- Of an even number of pixels, 2v + 2, the rule asks for 8, 10, 14 or 20, by the rate.
least_even : (choice v : ℕ) → choice < 4
    → (5 * get_or (8 ∷ 12 ∷ 16 ∷ 24 ∷ []) choice 0 ≤ 6 * (2 * v + 2)) ↔ (get_or (8 ∷ 10 ∷ 14 ∷ 20 ∷ []) choice 0 ≤ 2 * v + 2)
least_even zero v h = (λ e. omega (arith, e), λ e. omega (arith, e))
least_even (suc zero) v h = (λ e. omega (arith, e), λ e. omega (arith, e))
least_even (suc (suc zero)) v h = (λ e. omega (arith, e), λ e. omega (arith, e))
least_even (suc (suc (suc zero))) v h = (λ e. omega (arith, e), λ e. omega (arith, e))
least_even (suc (suc (suc (suc k)))) v h = absurd (omega (arith, h))

pub least_sync_holds : (g : Registers) → (5 * pixel_rate g ≤ 6 * (setting_of g).hs.0) ↔ (least_sync g ≤ (setting_of g).hs.0)
unfolding setting_of
least_sync_holds g = least_even (rate_field (control g)) (ten_bits g HSWR) (omega arith)

-- So an accepted setting with the cursor on has at least that.
pub accepted_sync : Every call.load_and_check λ run.
    let g = applied run.registers run.words in
    run.answer ≡ given (setting_of g) → (setting_of g).cursor ≡ true → least_sync g ≤ (setting_of g).hs.0
accepted_sync κs a x s p e on =
    let run : AcceptRun = (call.load_and_check).seen κs a x s in
    (least_sync_holds (applied run.registers run.words)).0 (((accepted_exactly κs a x s p).0 e).1.sync_width on)

-- The request's cases hold, by computation.
pub all_sync_cases : AllHold sync_cases
unfolding reserved leading stored_of applied lowest setting_of accept_told
all_sync_cases =
    (refl, refl, refl, refl, refl)
    ⨾ (refl, refl, refl, refl, refl)
    ⨾ (refl, refl, refl, refl, refl)
    ⨾ (refl, refl, refl, refl, refl)
    ⨾ (refl, refl)
    ⨾ refl
    ⨾ refl
    ⨾ (refl, refl)
    ⨾ tt
