-- What is needed, group by group: the lowest slot at fault is that of the first group with one.
use Prim.Native.Nat.{ℕ, zero, suc, ◌-◌, ◌*◌, ◌/◌, ◌%◌, ◌<◌, ◌≤◌}
use mathlib.Core.Path.{◌≡◌, refl, sym, ◌∙◌, ap}
use mathlib.Core.Bool.{Bool, true, false, ◌&&◌, ◌||◌, not}
use mathlib.Core.List.{List, [], ◌∷◌}
use native.Mathlib.Omega.{arith}
use lib.ListN.{get_or}
use lib.Dec.{ltb, eqb}
use borrow.Author.Tests.{eqb-true, ne_eqb}
use Rattle.std.specs.Prelude.{Some, None}
use Rattle.std.specs.Option.{option_or}
use Rattle.std.proofs.lemmas.Bool.Decides.{nat_tests}
use Rattle.buffers.specs.Pick.{pick}
use Rattle.registers.specs.Lowest.{lowest_slot}
use Rattle.registers.specs.Addresses.{BORDER, CURSOR, STEREO, HCR, HBER, HCSR, VCR, VBER, SOUND_FREQUENCY, CONTROL}
use Rattle.registers.specs.Record.{written_in, written_at}
use Rattle.registers.specs.Control.{depth_choice, entries_in_use}
use Rattle.registers.specs.Geometry.{cursor_on}
use Rattle.registers.specs.Needed.{among, needed_for, needed_under, missing}
use Rattle.registers.specs.Stereo.{frequency_in, sound_missing, sound_wrong}
use Rattle.registers.specs.inner.Groups.{unwritten_among, zero_stereo}
use Rattle.registers.specs.declared.record.Registers.{Registers}
use Rattle.registers.proofs.First.{lowest_here, slot_is}
use Rattle.registers.proofs.Groups.{and_false, or_and, lowest_skip, slot_same, slot_or, slot_alone, group_before, group_after}

-- What a picture needs besides control, as four groups one behind the other. With the cursor on, its colours stand behind the border's, and its
-- start behind the other horizontal values.
needed_groups : (entries j : ℕ) (cursor : Bool) → 1 ≤ entries
    → needed_for entries cursor j
    ≡ among 0 (4 * (entries - 1)) j || among BORDER (pick cursor (CURSOR 3) BORDER) j || among HCR (pick cursor HCSR HBER) j || among VCR VBER j
needed_groups entries j true some = grind (arith, nat_tests)
needed_groups entries j false some = grind (arith, nat_tests)

pick_most : (b : Bool) {m n k : ℕ} → m ≤ k → n ≤ k → pick b m n ≤ k
pick_most true p q = p
pick_most false p q = q

module _ (w : List Bool) where
  unwritten_before : (first last k : ℕ) → k ≤ first / 4 → (j : ℕ) → j < k → unwritten_among w first last j ≡ false
  unwritten_before first last k h j i = group_before first last (λ j. not (get_or w j false)) j (omega arith)

  unwritten_after : (first last k : ℕ) → last / 4 < k → (j : ℕ) → k ≤ j → unwritten_among w first last j ≡ false
  unwritten_after first last k h j i = group_after first last (λ j. not (get_or w j false)) j (omega arith)

  module _ (entry colours across : ℕ) where
    abbrev four : ℕ → Bool
    four j = unwritten_among w 0 entry j || unwritten_among w BORDER colours j || unwritten_among w HCR across j || unwritten_among w VCR VBER j

    first_of_four : entry ≤ 60 → colours ≤ 76 → across ≤ 152
        → lowest_slot four
        ≡ option_or (option_or (option_or (lowest_slot (unwritten_among w 0 entry)) (lowest_slot (unwritten_among w BORDER colours)))
        (lowest_slot (unwritten_among w HCR across))) (lowest_slot (unwritten_among w VCR VBER))
    first_of_four p q r =
        slot_or (λ j. unwritten_among w 0 entry j || unwritten_among w BORDER colours j || unwritten_among w HCR across j) (unwritten_among w VCR VBER) 40
        (λ j h. rw (
          unwritten_after 0 entry 40 (omega arith) j h,
          unwritten_after BORDER colours 40 (omega arith) j h,
          unwritten_after HCR across 40 (omega arith) j h,
        ))
        (unwritten_before VCR VBER 40 (omega arith))
        ∙ ap (λ o. option_or o (lowest_slot (unwritten_among w VCR VBER)))
        (slot_or (λ j. unwritten_among w 0 entry j || unwritten_among w BORDER colours j) (unwritten_among w HCR across) 32
        (λ j h. rw (unwritten_after 0 entry 32 (omega arith) j h, unwritten_after BORDER colours 32 (omega arith) j h))
        (unwritten_before HCR across 32 (omega arith))
        ∙ ap (λ o. option_or o (lowest_slot (unwritten_among w HCR across)))
        (slot_or (unwritten_among w 0 entry) (unwritten_among w BORDER colours) 16 (unwritten_after 0 entry 16 (omega arith))
        (unwritten_before BORDER colours 16 (omega arith))))

module _ (g : Registers) where
  pub entries_few : (1 ≤ entries_in_use g) × (entries_in_use g ≤ 16)
  entries_few = go (depth_choice g) (omega arith)
    where
      go : (k : ℕ) → k < 4 → (1 ≤ get_or (2 ∷ 4 ∷ 16 ∷ 16 ∷ []) k 0) × (get_or (2 ∷ 4 ∷ 16 ∷ 16 ∷ []) k 0 ≤ 16)
      go zero h = (omega arith, omega arith)
      go (suc zero) h = (omega arith, omega arith)
      go (suc (suc zero)) h = (omega arith, omega arith)
      go (suc (suc (suc zero))) h = (omega arith, omega arith)
      go (suc (suc (suc (suc k)))) h = absurd (omega arith)

  pub missing_control : written_at g CONTROL ≡ false → lowest_slot (missing g) ≡ Some 56
  missing_control e =
      slot_is (missing g) 56
      (lowest_skip (missing g) 64 56 (omega arith) (λ j h. rw (ne_eqb j 56 (λ q. omega arith), e)) ∙ lowest_here (missing g) 64 56 (omega arith) (rw e))
      (omega arith)

  -- where control is written, the first of the groups that misses a register tells the lowest
  pub missing_groups : written_at g CONTROL ≡ true
      → lowest_slot (missing g)
      ≡ option_or (option_or (option_or (lowest_slot (unwritten_among g.written 0 (4 * (entries_in_use g - 1))))
      (lowest_slot (unwritten_among g.written BORDER (pick (cursor_on g) (CURSOR 3) BORDER))))
      (lowest_slot (unwritten_among g.written HCR (pick (cursor_on g) HCSR HBER)))) (lowest_slot (unwritten_among g.written VCR VBER))
  missing_groups e =
      slot_same (missing g) (four g.written (4 * (entries_in_use g - 1)) (pick (cursor_on g) (CURSOR 3) BORDER) (pick (cursor_on g) HCSR HBER))
      (λ j. under j (eqb j 56) refl ∙ rw (needed_groups (entries_in_use g) j (cursor_on g) entries_few.0) (simp or_and))
      ∙ first_of_four g.written (4 * (entries_in_use g - 1)) (pick (cursor_on g) (CURSOR 3) BORDER) (pick (cursor_on g) HCSR HBER)
      (omega (arith, entries_few)) (pick_most (cursor_on g) (omega arith) (omega arith)) (pick_most (cursor_on g) (omega arith) (omega arith))
    where
      under : (j : ℕ) (t : Bool) → eqb j 56 ≡ t
          → (t || (written_at g CONTROL && needed_under g j)) && not (written_in g j) ≡ needed_under g j && not (written_in g j)
      under j false q = rw e
      under j true q = rw (eqb-true j 56 q, e) (sym (and_false (needed_under g 56)))

  pub sound_missing_groups : lowest_slot (sound_missing g)
      ≡ option_or (lowest_slot (unwritten_among g.written (STEREO 7) (STEREO 6)))
      (lowest_slot (unwritten_among g.written SOUND_FREQUENCY SOUND_FREQUENCY))
  sound_missing_groups =
      slot_same (sound_missing g) (λ j. unwritten_among g.written (STEREO 7) (STEREO 6) j || unwritten_among g.written SOUND_FREQUENCY SOUND_FREQUENCY j)
      (λ j. rw (one_slot j) (simp or_and))
      ∙ slot_or (unwritten_among g.written (STEREO 7) (STEREO 6)) (unwritten_among g.written SOUND_FREQUENCY SOUND_FREQUENCY) 48
      (unwritten_after g.written (STEREO 7) (STEREO 6) 48 (omega arith)) (unwritten_before g.written SOUND_FREQUENCY SOUND_FREQUENCY 48 (omega arith))
    where
      one_slot : (j : ℕ) → eqb j 48 ≡ among SOUND_FREQUENCY SOUND_FREQUENCY j
      one_slot j = grind (arith, nat_tests)

  pub sound_wrong_groups : lowest_slot (sound_wrong g) ≡ option_or (lowest_slot (zero_stereo g.values)) (pick (ltb (frequency_in g 48) 3) (Some 48) None)
  sound_wrong_groups =
      slot_or (zero_stereo g.values) (λ j. eqb j 48 && ltb (frequency_in g j) 3) 48
      (λ j h. group_after (STEREO 7) (STEREO 6) (λ j. eqb (get_or g.values j 0 % 8) 0) j (omega arith)) (λ j h. rw (ne_eqb j 48 (λ q. omega arith)))
      ∙ rw (slot_alone (λ j. ltb (frequency_in g j) 3) 48 (omega arith))
