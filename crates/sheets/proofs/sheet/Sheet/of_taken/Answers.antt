-- A plate that was taken apart has its lists in order among the words, and each of them is the plate's own.
use Prim.Native.Nat.{ℕ, ◌+◌, ◌*◌}
use mathlib.Core.Path.{sym, ap, ◌∙◌}
use borrow.Author.Rules.{rules}
use Rattle.refusals.specs.Refusals.{says}
use Rattle.sheets.specs.declared.Parts.{Parts}
use Rattle.sheets.proofs.Sheets.{input_given, input_held, input_length}
use Rattle.sheets.proofs.sheet.Sheet.of_taken.Goals as goal

pub cut-requires : goal.cut-requires
cut-requires g c =
    let told = ap says (sym c.in_ok-parts.was) ∙ c.requires.0 in
    let left = c.requires.1.0 in
    let held = input_held g.from.0 _ told _ _ left (rw (← input_length g.from.0 _ _ left) (search rules)) in
    (held.video_first, held.cursor_first, held.sound_first, held.inside)

pub returns-clause-lists : goal.returns-clause-lists
returns-clause-lists g c =
    let told = ap says (sym c.in_ok-parts.was) ∙ c.requires.0 in
    let left = c.requires.1.0 in
    let held = input_held g.from.0 _ told _ _ left (rw (← input_length g.from.0 _ _ left) (search rules)) in
    let lists = c.cut.ensures in
    record {
      taken = (input_given g.from.0 _ told).0;
      registers = lists.registers.words ∙ held.registers;
      video = lists.video.words ∙ held.video;
      cursor = lists.cursor.words ∙ held.cursor;
      sound = lists.sound.words ∙ held.sound;
    }

pub returns-clause-places : goal.returns-clause-places
returns-clause-places g c =
    let are = (input_given g.from.0 _ (ap says (sym c.in_ok-parts.was) ∙ c.requires.0)).1 in
    let lists = c.cut.ensures in
    let same = c.requires.1.1 in
    let block = ap (λ (z : ℕ × ℕ). z.0) same in
    let at = ap (λ (z : ℕ × ℕ). z.1) same in
    let o = g.from.1.ref_ptr.1 in
    record {
      registers = record { memory = lists.registers.memory ∙ block; place = lists.registers.place ∙ ap (λ (n : ℕ). n + 4 * 0) at };
      video = record { memory = lists.video.memory ∙ block; place = lists.video.place ∙ rw at (ap (λ (z : Parts). o + 4 * z.video) are) };
      cursor = record { memory = lists.cursor.memory ∙ block; place = lists.cursor.place ∙ rw at (ap (λ (z : Parts). o + 4 * z.cursor) are) };
      sound = record { memory = lists.sound.memory ∙ block; place = lists.sound.place ∙ rw at (ap (λ (z : Parts). o + 4 * z.sound) are) };
    }
