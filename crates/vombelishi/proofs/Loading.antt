-- Words stored in two lists are applied to their record: an unreserved word has a slot below 64, and each half of the record changes there alone.
use Prim.Native.Nat.{ℕ, zero, suc, ◌+◌, ◌<◌, ◌≤◌}
use mathlib.Core.Path.{◌≡◌, refl, sym, ◌∙◌, ap}
use mathlib.Core.Bool.{Bool, true, false}
use mathlib.Core.List.{List, [], ◌∷◌, map}
use native.Mathlib.Numerals.{add-one}
use native.Mathlib.Omega.{arith}
use lib.ListN.{length, get_or, set, take, drop, drop_of_length-le, length-set}
use lib.Seq.{drop-cons}
use Rattle.refusals.specs.Table.{Told, given, refused, row, judged, and_then, unless_refused}
use Rattle.registers.specs.Record.{slot_of, reserved, stored_of, word_told}
use Rattle.registers.specs.Load.{leading, applied, load_told}
use Rattle.registers.specs.Accept.{accept_told, accept_sound_told, handed_back}
use Rattle.registers.specs.declared.record.Registers.{Registers}
use Rattle.registers.specs.declared.setting.Setting.{Setting}
use Rattle.registers.proofs.Reserved.{unreserved}
use Rattle.registers.proofs.Halves.{first_leads, load_passes}
use Rattle.registers.proofs.Accepting.{accept_sound_then, accepted_both}
use Rattle.refusals.proofs.Tables.{never, given_passes}
use Rattle.vombelishi.specs.Record.{is_set, lacking, record_of, record_told}
use Rattle.vombelishi.specs.Settings.{numbers_of}
use Rattle.vombelishi.specs.Load.{value_stored, flag_stored, values_stored, flags_stored, word_call, word_values_leaves, word_written_leaves}
use Rattle.vombelishi.specs.Load.{accepted_told, accept_call, accept_values_leaves, accept_written_leaves}
use Rattle.vombelishi.specs.Load.{accept_sound_call, sound_values_leaves, sound_written_leaves}

-- A list l, in which the words from i on are still to be stored, for a list as it came.
module _ (words : List ℕ) (i : ℕ) where
  abbrev pub Storing : List ℕ → List ℕ → Type 0
  Storing came l = (length l ≡ length came) × (values_stored came words ≡ values_stored l (drop i words))

  abbrev pub Flagging : List ℕ → List ℕ → Type 0
  Flagging came l = (length l ≡ length came) × (flags_stored came words ≡ flags_stored l (drop i words))

  -- At the end none is.
  pub values_all : (l : List ℕ) → length words ≤ i → values_stored l (drop i words) ≡ l
  unfolding values_stored
  values_all l h = rw (drop_of_length-le words h)

  pub flags_all : (l : List ℕ) → length words ≤ i → flags_stored l (drop i words) ≡ l
  unfolding flags_stored
  flags_all l h = rw (drop_of_length-le words h)

-- One word more is stored.
module _ (words : List ℕ) (i : ℕ) (came l m : List ℕ) (h : i < length words) where
  pub values_turn : Storing words i came l → m ≡ value_stored l (get_or words i 0) → Storing words (i + 1) came m
  unfolding values_stored
  values_turn s e =
      let long : length m ≡ length l = ap length e ∙ length-set l _ _ in
      (long ∙ s.0, s.1 ∙ rw (e, add-one, drop-cons words i 0))

  pub flags_turn : Flagging words i came l → m ≡ flag_stored l (get_or words i 0) → Flagging words (i + 1) came m
  unfolding flags_stored
  flags_turn s e =
      let long : length m ≡ length l = ap length e ∙ length-set l _ _ in
      (long ∙ s.0, s.1 ∙ rw (e, add-one, drop-cons words i 0))

-- A store below n is one in the first n.
take_set : {A : Type 0} (n : ℕ) (l : List A) (k : ℕ) (a : A) → k < n → take n (set l k a) ≡ set (take n l) k a
take_set zero l k a h = absurd (omega arith)
take_set (suc n) [] k a h = refl
take_set (suc n) (x ∷ l) zero a h = refl
take_set (suc n) (x ∷ l) (suc k) a h = ap (λ m. x ∷ m) (take_set n l k a (omega arith))

map_set : {A B : Type 0} (f : A → B) (l : List A) (k : ℕ) (a : A) → map f (set l k a) ≡ set (map f l) k (f a)
map_set f [] k a = refl
map_set f (x ∷ l) zero a = refl
map_set f (x ∷ l) (suc k) a = ap (λ m. f x ∷ m) (map_set f l k a)

-- One word.
pub word_applied : (values written : List ℕ) (word : ℕ) → reserved (slot_of word) ≡ false
    → record_of (value_stored values word) (flag_stored written word) ≡ stored_of (record_of values written) word
unfolding record_of stored_of
word_applied values written word e =
    let h = unreserved (slot_of word) e in
    rw (e, take_set 64 values (slot_of word) _ h, take_set 64 written (slot_of word) 1 h, map_set is_set (take 64 written) (slot_of word) 1)

-- A list with no reserved word.
pub words_applied : (values written words : List ℕ) → length words ≤ leading words
    → record_of (values_stored values words) (flags_stored written words) ≡ applied (record_of values written) words
unfolding values_stored flags_stored applied
words_applied values written [] h = refl
words_applied values written (w ∷ ws) h =
    let n = first_leads w ws h in
    words_applied (value_stored values w) (flag_stored written w) ws n.1 ∙ ap (λ g. applied g ws) (word_applied values written w n.0)

-- What is known of a call that is not refused: so was what came before it.
given_then : {A B P : Type 0} (t : Told A) (next : A → Told B) (b : B) → and_then t next ≡ given b → ((a : A) → t ≡ given a → next a ≡ given b → P) → P
given_then (given a) next b e use_it = use_it a refl e
given_then (refused w) next b e use_it = never (sym e)

module _ (values written : List ℕ) where
  -- a record is given its own two lists
  record_given : {B : Type 0} (next : Registers → Told B) (b : B) → and_then (record_told values written) next ≡ given b
      → next (record_of values written) ≡ given b
  unfolding record_told
  record_given next b e = go (lacking values written) e
    where
      go : (t : Bool) → and_then (judged (row 13 t 0 ∷ []) (record_of values written)) next ≡ given b → next (record_of values written) ≡ given b
      go true h = never (sym h)
      go false h = h

  module _ (words : List ℕ) where
    -- a list whose setting is told,
    pub told_accepted : (s : Setting) → accepted_told values written words ≡ given s → accept_told (record_of values written) words ≡ given s
    unfolding accepted_told
    told_accepted s e = record_given (λ g. accept_told g words) s e

    loaded_call : (room : ℕ) (numbers : List ℕ) → accept_call values written words room ≡ given numbers → length words ≤ leading words
    unfolding accept_call
    loaded_call room numbers e =
        given_then (and_then (accepted_told values written words) (λ s. given (numbers_of s))) _ numbers e λ a f g.
        given_then (accepted_told values written words) _ a f λ s h i.
        (load_passes words (accepted_both (record_of values written) words s (told_accepted s h)).0).1

    -- and one that sound accepts
    loaded_sound : (u : Unit {0}) → accept_sound_call values written words ≡ given u → length words ≤ leading words
    unfolding accept_sound_call
    loaded_sound u e =
        let h = record_given (λ g. accept_sound_told g words) u e in
        given_then (load_told words) _ u (sym (accept_sound_then (record_of values written) words) ∙ h) λ v f g.
        (load_passes words f).1

    -- the record of both lists afterwards, by what is told
    left_by_holds : {A : Type 0} (t : Told A) → ((a : A) → t ≡ given a → length words ≤ leading words)
        → record_of (unless_refused t values (values_stored values words)) (unless_refused t written (flags_stored written words))
        ≡ handed_back t (record_of values written) words
    left_by_holds (given a) h = words_applied values written words (h a refl)
    left_by_holds (refused w) h = refl

    -- It is as the register library hands it back after a list was loaded and checked,
    pub record_accepted : (room : ℕ) → record_of (accept_values_leaves values written words room) (accept_written_leaves values written words room)
        ≡ handed_back (accept_call values written words room) (record_of values written) words
    unfolding accept_values_leaves accept_written_leaves
    record_accepted room = left_by_holds (accept_call values written words room) (loaded_call room)

    -- or for sound,
    pub record_played : record_of (sound_values_leaves values written words) (sound_written_leaves values written words)
        ≡ handed_back (accept_sound_call values written words) (record_of values written) words
    unfolding sound_values_leaves sound_written_leaves
    record_played = left_by_holds (accept_sound_call values written words) loaded_sound

  accepted_word : (word : ℕ) (u : Unit {0}) → word_call values written word ≡ given u → reserved (slot_of word) ≡ false
  unfolding word_call
  accepted_word word u e =
      (given_passes tt (row 2 (reserved (slot_of word)) 0 ∷ []) u (record_given (λ g. word_told word) u e)).0.0

  -- and after one word.
  pub record_stored : (word : ℕ) → record_of (word_values_leaves values written word) (word_written_leaves values written word)
      ≡ unless_refused (word_call values written word) (record_of values written) (stored_of (record_of values written) word)
  unfolding word_values_leaves word_written_leaves
  record_stored word = go (word_call values written word) refl
    where
      go : (t : Told (Unit {0})) → word_call values written word ≡ t
          → record_of (unless_refused t values (value_stored values word)) (unless_refused t written (flag_stored written word))
          ≡ unless_refused t (record_of values written) (stored_of (record_of values written) word)
      go (given u) e = word_applied values written word (accepted_word word u e)
      go (refused w) e = refl
