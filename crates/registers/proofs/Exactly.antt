-- A record is accepted exactly when every rule holds, and the refusal given is that of the first rule broken; 19 by itself, in plain words.
use Prim.Native.Nat.{ℕ, ◌*◌, ◌<◌, ◌≤◌}
use mathlib.Core.Path.{◌≡◌, refl, sym, ◌∙◌, ap}
use mathlib.Core.Bool.{Bool, true, false, ◌&&◌, ◌||◌, not}
use mathlib.Core.Logic.{◌⊎◌, inl, inr, ◌↔◌}
use native.Mathlib.Omega.{arith}
use lib.Dec.{ltb}
use borrow.Author.Tests.{ltb-true, ltb-false, leb-true, leb-false, eqb-true, not-true, not-false, lt-ltb, le-ltb, lt-leb, le-leb, eq-eqb}
use Rattle.buffers.proofs.Tests.{and_split, and_join, or_split, or_neither, or_left, or_right, no}
use Rattle.refusals.specs.Table.{Why, why, given, refused, test_of, Passes, First}
use Rattle.refusals.proofs.Tables.{◌⨾◌, passed, passes_given, given_passes, refused_first, first_refused, precedes, first_passed, first_holds}
use Rattle.registers.specs.Record.{written_in}
use Rattle.registers.specs.Control.{pixel_rate}
use Rattle.registers.specs.Geometry.{sub_position}
use Rattle.registers.specs.Setting.{setting_of, display_on, border_on}
use Rattle.registers.specs.Needed.{needed, missing}
use Rattle.registers.specs.Check.{horizontal_rule, sync_rule, display_rule, border_rule, vertical_rule, cursor_rule, unwritten, setting_table, check_told}
use Rattle.registers.specs.Rules.{Horizontal, Displayed, Bordered, Vertical, EveryRule, SyncTooShort}
use Rattle.registers.specs.declared.record.Registers.{Registers}
use Rattle.registers.specs.declared.setting.Setting.{Setting}
use Rattle.registers.proofs.First.{lowest_passes, lowest_fails}

not_of : {t : Bool} → t ≡ true → not t ≡ false
not_of e = rw e

not_off : {t : Bool} → t ≡ false → not t ≡ true
not_off e = rw e

-- what is asked only where something is on
where_on : (on : Bool) {t : Bool} → not on || t ≡ true → on ≡ true → t ≡ true
where_on true e h = e
where_on false e h = absurd (no h)

if_on : (on : Bool) {t : Bool} → (on ≡ true → t ≡ true) → not on || t ≡ true
if_on true f = f refl
if_on false f = refl

module _ (s : Setting) where
  pub horizontal_right : horizontal_rule s ≡ true → Horizontal s
  horizontal_right e =
      let p = and_split _ _ e in
      let q = and_split _ _ p.0 in
      let r = and_split _ _ q.0 in
      let t = and_split _ _ r.0 in
      record {
        hs_bs = leb-true _ _ t.0;
        bs_ds = leb-true _ _ t.1;
        ds_de = ltb-true _ _ r.1;
        de_be = leb-true _ _ q.1;
        be_n = leb-true _ _ p.1;
      }

  horizontal_tests : Horizontal s → horizontal_rule s ≡ true
  horizontal_tests h =
      and_join (and_join (and_join (and_join (le-leb _ _ h.hs_bs) (le-leb _ _ h.bs_ds)) (lt-ltb _ _ h.ds_de)) (le-leb _ _ h.de_be))
      (le-leb _ _ h.be_n)

  pub displayed_right : display_rule s ≡ true → Displayed s
  displayed_right e =
      let p = and_split _ _ e in
      let q = and_split _ _ p.0 in
      let r = and_split _ _ q.0 in
      let t = and_split _ _ r.0 in
      record {
        vs_vbs = leb-true _ _ t.0;
        vbs_vds = leb-true _ _ t.1;
        vds_vde = ltb-true _ _ r.1;
        vde_vbe = leb-true _ _ q.1;
        vbe_v = leb-true _ _ p.1;
      }

  displayed_tests : Displayed s → display_rule s ≡ true
  displayed_tests h =
      and_join (and_join (and_join (and_join (le-leb _ _ h.vs_vbs) (le-leb _ _ h.vbs_vds)) (lt-ltb _ _ h.vds_vde)) (le-leb _ _ h.vde_vbe))
      (le-leb _ _ h.vbe_v)

  bordered_right : border_rule s ≡ true → Bordered s
  bordered_right e =
      let p = and_split _ _ e in
      let q = and_split _ _ p.0 in
      record { vs_vbs = leb-true _ _ q.0; vbs_vbe = ltb-true _ _ q.1; vbe_v = leb-true _ _ p.1 }

  bordered_tests : Bordered s → border_rule s ≡ true
  bordered_tests h = and_join (and_join (le-leb _ _ h.vs_vbs) (lt-ltb _ _ h.vbs_vbe)) (le-leb _ _ h.vbe_v)

  off_right : not (display_on s) && (not (border_on s) || border_rule s) ≡ true
      → (s.vde.0 ≤ s.vds.0) × ((s.vbe.0 ≤ s.vbs.0) ⊎ Bordered s)
  off_right e =
      let p = and_split _ _ e in
      (ltb-false _ _ (not-true _ p.0), go (or_split _ _ p.1))
    where
      go : (not (border_on s) ≡ true) ⊎ (border_rule s ≡ true) → (s.vbe.0 ≤ s.vbs.0) ⊎ Bordered s
      go (inl q) = inl (ltb-false _ _ (not-true _ q))
      go (inr q) = inr (bordered_right q)

  pub vertical_right : vertical_rule s ≡ true → Vertical s
  vertical_right e =
      let p = and_split _ _ e in
      (leb-true _ _ p.0, go (or_split _ _ p.1))
    where
      go : (display_rule s ≡ true) ⊎ (not (display_on s) && (not (border_on s) || border_rule s) ≡ true)
          → Displayed s ⊎ ((s.vde.0 ≤ s.vds.0) × ((s.vbe.0 ≤ s.vbs.0) ⊎ Bordered s))
      go (inl q) = inl (displayed_right q)
      go (inr q) = inr (off_right q)

  vertical_tests : Vertical s → vertical_rule s ≡ true
  vertical_tests v = and_join (le-leb _ _ v.0) (go v.1)
    where
      inner : (s.vbe.0 ≤ s.vbs.0) ⊎ Bordered s → not (border_on s) || border_rule s ≡ true
      inner (inl h) = or_left (border_rule s) (not_off (le-ltb _ _ h))
      inner (inr h) = or_right (not (border_on s)) (bordered_tests h)

      go : Displayed s ⊎ ((s.vde.0 ≤ s.vds.0) × ((s.vbe.0 ≤ s.vbs.0) ⊎ Bordered s))
          → display_rule s || (not (display_on s) && (not (border_on s) || border_rule s)) ≡ true
      go (inl h) = or_left (not (display_on s) && (not (border_on s) || border_rule s)) (displayed_tests h)
      go (inr h) = or_right (display_rule s) (and_join (not_off (le-ltb _ _ h.0)) (inner h.1))

module _ (g : Registers) where
  -- row 3
  all_written : ltb (unwritten g) 64 ≡ false → (slot : ℕ) → slot < 64 → needed g slot ≡ true → written_in g slot ≡ true
  all_written e slot h n =
      let low : 64 ≤ unwritten g = ltb-false _ _ e in
      let f : missing g slot ≡ false = lowest_fails (missing g) 64 0 slot (omega arith) (omega arith) in
      not-false _ (sym (ap (λ (b : Bool). b && not (written_in g slot)) n) ∙ f)

  none_missing : ((slot : ℕ) → slot < 64 → needed g slot ≡ true → written_in g slot ≡ true) → ltb (unwritten g) 64 ≡ false
  none_missing all = go (ltb (unwritten g) 64) refl
    where
      go : (b : Bool) → ltb (unwritten g) 64 ≡ b → b ≡ false
      go false e = refl
      go true e =
          let h : unwritten g < 64 = ltb-true _ _ e in
          let m : missing g (unwritten g) ≡ true = lowest_passes (missing g) 64 0 h in
          let p = and_split (needed g (unwritten g)) (not (written_in g (unwritten g))) m in
          let w = all (unwritten g) h p.0 in
          cc (w, not-true (written_in g (unwritten g)) p.1)

  -- the rules that the cursor asks for, each where it is on
  sync_right : sync_rule g (setting_of g) ≡ true → (setting_of g).cursor ≡ true → 5 * pixel_rate g ≤ 6 * (setting_of g).hs.0
  sync_right e on = leb-true _ _ (where_on (setting_of g).cursor e on)

  sync_tests : ((setting_of g).cursor ≡ true → 5 * pixel_rate g ≤ 6 * (setting_of g).hs.0) → sync_rule g (setting_of g) ≡ true
  sync_tests h = if_on (setting_of g).cursor (λ on. le-leb _ _ (h on))

  cursor_right : cursor_rule g (setting_of g) ≡ true → (setting_of g).cursor ≡ true → (sub_position g ≡ 0) × ((setting_of g).vce.0 ≤ (setting_of g).v.0)
  cursor_right e on = let p = and_split _ _ (where_on (setting_of g).cursor e on) in (eqb-true _ _ p.0, leb-true _ _ p.1)

  cursor_tests : ((setting_of g).cursor ≡ true → (sub_position g ≡ 0) × ((setting_of g).vce.0 ≤ (setting_of g).v.0))
      → cursor_rule g (setting_of g) ≡ true
  cursor_tests h = if_on (setting_of g).cursor (λ on. and_join (eq-eqb _ _ (h on).0) (le-leb _ _ (h on).1))

  -- what an accepted record has: no row's test holds, each found by its number
  pub every_rule : (s : Setting) → check_told g ≡ given s → EveryRule g
  unfolding check_told
  every_rule s e =
      let rows = setting_table g in
      let p = (given_passes (setting_of g) rows s e).0 in
      record {
        written = all_written (passed 3 rows p);
        test_mode = eqb-true _ _ (not-false _ (passed 4 rows p));
        interlace = eqb-true _ _ (not-false _ (passed 5 rows p));
        horizontal = horizontal_right (setting_of g) (not-false _ (passed 6 rows p));
        sync_width = sync_right (not-false _ (passed 19 rows p));
        vertical = vertical_right (setting_of g) (not-false _ (passed 7 rows p));
        width = eqb-true _ _ (not-false _ (passed 8 rows p));
        cursor = cursor_right (not-false _ (passed 9 rows p));
      }

  pub accepted_setting : (s : Setting) → check_told g ≡ given s → s ≡ setting_of g
  unfolding check_told
  accepted_setting s e = sym (given_passes (setting_of g) (setting_table g) s e).1

  -- a record that keeps every rule passes the table, row by row
  passes : EveryRule g → Passes (setting_table g)
  passes h =
      none_missing h.written
      ⨾ not_of (eq-eqb _ _ h.test_mode)
      ⨾ not_of (eq-eqb _ _ h.interlace)
      ⨾ not_of (horizontal_tests (setting_of g) h.horizontal)
      ⨾ not_of (sync_tests h.sync_width)
      ⨾ not_of (vertical_tests (setting_of g) h.vertical)
      ⨾ not_of (eq-eqb _ _ h.width)
      ⨾ not_of (cursor_tests h.cursor)
      ⨾ tt

  -- accepted exactly when every rule holds
  pub exactly : (check_told g ≡ given (setting_of g)) ↔ EveryRule g
  unfolding check_told
  exactly = (every_rule (setting_of g), λ h. passes_given (setting_of g) (setting_table g) (passes h))

  -- and refused exactly with the first rule broken
  pub first_broken : (w : Why) → (check_told g ≡ refused w) ↔ First (setting_table g) w
  unfolding check_told
  first_broken w = (refused_first (setting_of g) (setting_table g) w, first_refused (setting_of g) (setting_table g) w)

  -- 19 among them: the rules before it hold, the cursor is on and horizontal sync is too short for it
  sync_broken : sync_rule g (setting_of g) ≡ false → ((setting_of g).cursor ≡ true) × (6 * (setting_of g).hs.0 < 5 * pixel_rate g)
  sync_broken e = let p = or_neither (not (setting_of g).cursor) _ e in (not-false _ p.0, leb-false _ _ p.1)

  sync_fails : (setting_of g).cursor ≡ true → 6 * (setting_of g).hs.0 < 5 * pixel_rate g → not (sync_rule g (setting_of g)) ≡ true
  sync_fails on short = rw (on, lt-leb (5 * pixel_rate g) (6 * (setting_of g).hs.0) short)

  told_short : First (setting_table g) (why 19 0) → SyncTooShort g
  told_short f =
      let rows = setting_table g in
      let earlier : (n : ℕ) → precedes n 19 rows ≡ true → test_of n rows ≡ false = λ n e. first_passed n rows (why 19 0) e f in
      let broken = sync_broken (held (or_split _ _ (first_holds rows (why 19 0) f))) in
      record {
        written = all_written (earlier 3 refl);
        test_mode = eqb-true _ _ (not-false _ (earlier 4 refl));
        interlace = eqb-true _ _ (not-false _ (earlier 5 refl));
        horizontal = horizontal_right (setting_of g) (not-false _ (earlier 6 refl));
        cursor_on = broken.0;
        too_short = broken.1;
      }
    where
      held : (not (sync_rule g (setting_of g)) ≡ true) ⊎ (false ≡ true) → sync_rule g (setting_of g) ≡ false
      held (inl t) = not-true _ t
      held (inr e) = absurd (no e)

  short_told : SyncTooShort g → First (setting_table g) (why 19 0)
  short_told h =
      inr (
        none_missing h.written,
        inr (
          not_of (eq-eqb _ _ h.test_mode),
          inr (
            not_of (eq-eqb _ _ h.interlace),
            inr (not_of (horizontal_tests (setting_of g) h.horizontal), inl (sync_fails h.cursor_on h.too_short, refl)),
          ),
        ),
      )

  pub too_short_exactly : (check_told g ≡ refused (why 19 0)) ↔ SyncTooShort g
  too_short_exactly = (λ e. told_short ((first_broken (why 19 0)).0 e), λ h. (first_broken (why 19 0)).1 (short_told h))
