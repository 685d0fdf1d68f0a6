-- What taking a plate apart tells, what its parts are where it is not refused, and where its lists lie then.
use Prim.Native.Nat.{ℕ, ◌-◌, ◌<◌, ◌≤◌}
use mathlib.Core.Path.{◌≡◌, refl, sym, ◌∙◌, ap}
use mathlib.Core.Bool.{Bool, true, false, not, true≢false}
use mathlib.Core.List.{List, [], ◌∷◌}
use native.Mathlib.Omega.{arith}
use lib.Dec.{ltb}
use lib.ListN.{length, length-take, length-drop}
use lib.Seq.{sets, length-sets}
use borrow.Author.Tests.{lt-ltb, le-ltb, ltb-false}
use Rattle.refusals.specs.Table.{Why, why, Told, given, refused, row, judged, and_then, unless_refused, Passes}
use Rattle.refusals.proofs.Tables.{passed, given_passes, judged_then, never}
use Rattle.plates.specs.Plate.{right, r_of}
use Rattle.plates.specs.Read.{read_told, copy_table, copy_told, copied}
use Rattle.plates.specs.declared.Sections.{Sections}
use Rattle.plates.proofs.Rule.{Ordered}
use Rattle.plates.proofs.Calls.{Right, right_given, right_ordered, copy_refused}
use Rattle.sheets.specs.Sheet.{part, register_words, video_list, cursor_list, sound_list, parts_of, take_told}
use Rattle.sheets.specs.Input.{most_input, input_table, input_told, take_input_told, input_leaves}
use Rattle.sheets.specs.declared.Parts.{Parts}
use Rattle.sheets.proofs.Sections.{held_registers, held_video, held_cursor, held_sound}

-- a plate that is not refused has its parts, and one that is refused has none
pub take_then : (file : List ℕ) (places : ℕ) → take_told file places ≡ and_then (copy_told file places) (λ _. given (parts_of file))
unfolding take_told copy_told
take_then file places = judged_then tt (parts_of file) (copy_table file places)

pub input_then : (file : List ℕ) → take_input_told file ≡ and_then (input_told file) (λ _. given (parts_of file))
unfolding take_input_told input_told
input_then file = judged_then tt (parts_of file) (input_table file)

-- the parts, field by field
parts_eta : (z : Parts) (v c s e : ℕ) → z.video ≡ v → z.cursor ≡ c → z.sound ≡ s → z.end ≡ e
    → z ≡ record { video = v; cursor = c; sound = s; end = e }
parts_eta z v c s e j k l m = rw (← j, ← k, ← l, ← m)

-- a file that was read
module _ (file : List ℕ) (p : Sections) (e : given p ≡ read_told file) where
  found : Right file p
  found = right_given file p e

  pub in_order : Ordered (length file) p.r p.v p.c p.s
  in_order = rw found.are (right_ordered file found.is_right)

  pub parts_are : (z : Parts) → z.video ≡ p.r - p.v → z.cursor ≡ p.r - p.c → z.sound ≡ p.r - p.s → z.end ≡ p.r → z ≡ parts_of file
  parts_are z j k l m = parts_eta z (p.r - p.v) (p.r - p.c) (p.r - p.s) p.r j k l m ∙ rw found.are

-- taken apart: refused with its reading, or given its parts
module _ (file : List ℕ) where
  pub take_unread : (words : List ℕ) (w : Why) → refused w ≡ read_told file → refused w ≡ take_told file (length words)
  take_unread words w e = rw (take_then, ← (copy_refused file w words words e).0)

  pub take_given : (places : ℕ) (p : Parts) → given tt ≡ copy_told file places → p ≡ parts_of file → given p ≡ take_told file places
  take_given places p e q = rw (take_then, ← e, q)

-- what comes in on standard input: too long, or taken apart with room for all its words
module _ (file words : List ℕ) where
  pub input_large : most_input < length file → input_told file ≡ refused (why 15 0)
  unfolding input_told
  input_large h = rw (lt-ltb most_input (length file) h)

  roomy : length file ≤ most_input → 16384 ≤ length words → (b : Bool) → right file ≡ b
      → ◌≡◌ {A = Told (Unit {0})} (judged (row 14 (not b) 0 ∷ []) tt)
      (judged (row 14 (not b) 0 ∷ row 13 (ltb (length words) (r_of file)) 0 ∷ []) tt)
  roomy h k false e = refl
  roomy h k true e =
      let o = right_ordered file e in
      rw (le-ltb (length words) (r_of file) (omega (arith, o.whole)))

  pub input_same : length file ≤ most_input → 16384 ≤ length words → input_told file ≡ copy_told file (length words)
  unfolding input_told copy_told
  input_same h k = rw (le-ltb most_input (length file) h) (roomy h k (right file) refl)

  pub too_large : most_input < length file → (refused (why 15 0) ≡ take_input_told file) × (words ≡ input_leaves file words)
  too_large h = (rw (input_then, input_large h), rw (input_large h))

  pub input_taken : length file ≤ most_input → 16384 ≤ length words → take_told file (length words) ≡ take_input_told file
  input_taken h k = rw (take_then, input_then, input_same h k)

-- the parts of a plate, and its lists where they lie among the words
pub record Held (file words : List ℕ) (p : Parts) : Type 0 where
  pub video_first : p.video ≤ p.cursor
  pub cursor_first : p.cursor ≤ p.sound
  pub sound_first : p.sound ≤ p.end
  pub inside : p.end ≤ length words
  pub registers : part words 0 p.video ≡ register_words file
  pub video : part words p.video p.cursor ≡ video_list file
  pub cursor : part words p.cursor p.sound ≡ cursor_list file
  pub sound : part words p.sound p.end ≡ sound_list file

held : (file o : List ℕ) → right file ≡ true → r_of file ≤ length o → Held file (sets o 0 (copied file)) (parts_of file)
held file o is room =
    let order = right_ordered file is in
    record {
      video_first = omega (arith, order.c_v);
      cursor_first = omega (arith, order.s_c);
      sound_first = omega arith;
      inside = rw length-sets room;
      registers = held_registers file is o room;
      video = held_video file is o room;
      cursor = held_cursor file is o room;
      sound = held_sound file is o room;
    }

-- what is known of a plate that is given: by the rows that it passed
module _ (file : List ℕ) (e : input_told file ≡ given tt) where
  input_passes : Passes (input_table file)
  unfolding input_told
  input_passes = (given_passes tt (input_table file) tt e).0

  input_right : right file ≡ true
  input_right = go (right file) (passed 14 (input_table file) input_passes)
    where
      go : (b : Bool) → not b ≡ false → b ≡ true
      go true h = refl
      go false h = absurd (true≢false h)

  pub few_words : r_of file ≤ 16380
  few_words =
      let short = ltb-false most_input (length file) (passed 15 (input_table file) input_passes) in
      omega (arith, (right_ordered file input_right).whole)

  pub few_sounds : length (sound_list file) ≤ 16380
  unfolding sound_list
  few_sounds = rw (length-take, length-drop) (omega (arith, few_words))

-- what is taken apart, with its lists, as its caller has it
module _ (file : List ℕ) (p : Parts) (t : given p ≡ take_input_told file) where
  taken : (u : Told (Unit {0})) → input_told file ≡ u → given p ≡ and_then u (λ _. given (parts_of file))
      → (input_told file ≡ given tt) × (p ≡ parts_of file)
  taken (given _) e q = (e, cc)
  taken (refused w) e q = never q

  pub input_given : (input_told file ≡ given tt) × (p ≡ parts_of file)
  input_given = taken (input_told file) refl (t ∙ input_then file)

  pub input_held : (o new : List ℕ) → new ≡ input_leaves file o → 16384 ≤ length o → Held file new p
  input_held o new left room =
      let g = input_given.0 in
      let n : new ≡ sets o 0 (copied file) = left ∙ rw g in
      rw (input_given.1, n) (held file o (input_right file g) (omega (arith, few_words file g)))

pub input_refused : (file : List ℕ) (w : Why) → refused w ≡ take_input_told file → input_told file ≡ refused w
input_refused file w t = go (input_told file) refl (t ∙ input_then file)
  where
    go : (u : Told (Unit {0})) → input_told file ≡ u → refused w ≡ and_then u (λ _. given (parts_of file)) → input_told file ≡ refused w
    go (given _) e q = never (sym q)
    go (refused v) e q = let same : w ≡ v = cc in e ∙ ap refused (sym same)

-- what a caller that lends its words on needs: there are as many as before, refused or not
pub input_length : (file o new : List ℕ) → new ≡ input_leaves file o → length new ≡ length o
input_length file o new left = go (input_told file) left
  where
    go : (u : Told (Unit {0})) → new ≡ unless_refused u o (sets o 0 (copied file)) → length new ≡ length o
    go (given _) e = ap length e ∙ length-sets o 0 (copied file)
    go (refused w) e = ap length e
