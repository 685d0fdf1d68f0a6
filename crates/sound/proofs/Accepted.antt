-- What a sound call tells, by its record and its room: its table is that of its record, then 13. So it is refused there, or short of room, or done.
use Rattle.std.proofs.Common.{◌≡◌, ℕ, ◌*◌, ◌/◌, ◌<◌, ◌≤◌, ltb, List, [], ◌∷◌, length, ℤ, sym, ap, ◌∙◌, arith, ltb-false, le-ltb, lt-ltb}
use lib.Seq.{sets}
use Rattle.buffers.specs.Words.{bytes_of}
use Rattle.refusals.specs.Table.{why, Why, Told, given, refused, Row, row, judged, and_then, unless_refused}
use Rattle.refusals.proofs.Tables.{passed, passes_first, passes_given, given_passes, and_then_judged}
use Rattle.registers.specs.Sound.{sound_table, sound_told}
use Rattle.registers.specs.declared.record.Registers.{Registers}
use Rattle.sound.specs.Values.{counter_after, values_of}
use Rattle.sound.specs.Play.{play_table, play_told, played_of}
use Rattle.sound.specs.declared.sixths.Sixths.{Sixths}
use Rattle.sound.specs.inner.Tables.{left_in, right_in, SixthsOf}
use Rattle.sound.proofs.Eleven.{values_by}

module _ (g : Registers) (words places : ℕ) where
  abbrev room : List Row
  room = row 13 (ltb places (8 * words)) 0 ∷ []

  -- 13 is judged where the record is accepted
  pub play_rows : play_told g words places ≡ and_then (sound_told g) (λ u. judged room tt)
  unfolding play_told sound_told
  play_rows = sym (and_then_judged tt (sound_table g) (λ u. room) (λ u. tt))

  -- a call that is not refused had an accepted record and room for 8 values a word
  pub played : play_told g words places ≡ given tt → (sound_told g ≡ given tt) × (8 * words ≤ places)
  unfolding play_told sound_told
  played e =
      let rows = play_table g words places in
      let p = (given_passes tt rows tt e).0 in
      (passes_given tt (sound_table g) (passes_first (sound_table g) room p), ltb-false places (8 * words) (passed 13 rows p))

module _ (g : Registers) (words : List ℕ) (counter : ℕ) (out : List ℤ) where
  -- the three promises of the call, of its answer, counter and memory
  abbrev pub Promised : Told (Unit {0}) → ℕ → List ℤ → Type 0
  Promised t c after =
      (t ≡ play_told g (length words) (length out))
      × (c ≡ unless_refused (play_told g (length words) (length out)) counter (counter_after counter (4 * length words)))
      × (after ≡ unless_refused (play_told g (length words) (length out)) out (sets out 0 (played_of g counter words)))

  rows : play_told g (length words) (length out) ≡ and_then (sound_told g) (λ u. judged (row 13 (ltb (length out) (8 * length words)) 0 ∷ []) tt)
  rows = play_rows g (length words) (length out)

  -- a refusal of the record is the call's
  pub play_refused : (w : Why) → refused w ≡ sound_told g → Promised (refused w) counter out
  play_refused w e = (rw (rows, ← e), rw (rows, ← e), rw (rows, ← e))

  -- too little room is 13
  pub play_short : given tt ≡ sound_told g → length out / 8 < length words → Promised (refused (why 13 0)) counter out
  play_short e h =
      let t = lt-ltb (length out) (8 * length words) (omega arith) in
      (rw (rows, ← e, t), rw (rows, ← e, t), rw (rows, ← e, t))

  -- else the values of the table are stored, and the counter has gone on
  pub play_done :
      (c : ℕ) (after : List ℤ) (table : List Sixths) → given tt ≡ sound_told g → length words ≤ length out / 8
      → SixthsOf g table → c ≡ counter_after counter (4 * length words)
      → after ≡ sets out 0 (values_of (left_in table) (right_in table) counter (bytes_of words))
      → Promised (given tt) c after
  play_done c after table e h s p q =
      let t = le-ltb (length out) (8 * length words) (omega arith) in
      (rw (rows, ← e, t), rw (rows, ← e, t) p, rw (rows, ← e, t) (q ∙ ap (sets out 0) (values_by g table s counter words)))
