-- The call for a text: it is stored whole where it fits, and since it has at least a byte, none stored tells that it does not.
use Prim.Native.Nat.{ℕ, ◌≤◌, ◌<◌}
use mathlib.Core.Path.{◌≡◌, sym, ◌∙◌, ap}
use mathlib.Core.List.{List}
use mathlib.Core.Logic.{inl, inr}
use native.Mathlib.Omega.{arith}
use borrow.Author.Tests.{lt-ltb, le-ltb}
use lib.ListN.{length}
use lib.Seq.{sets}
use Rattle.buffers.specs.Put.{Put, text_in}
use Rattle.buffers.proofs.Split.{lt_or_le}
use Rattle.refusals.specs.Table.{why, given, refused}
use Rattle.std.specs.Prelude.{Result, Err, IsErrAnd}
use Rattle.std.proofs.lemmas.Result.{err_from_is_err_and}
use Rattle.refusals.specs.Refusals.{refusal, why_of}
use Rattle.refusals.specs.declared.Refusal.{Refusal}
use Rattle.registers.specs.Record.{fresh}
use Rattle.registers.specs.Accept.{accept_told, handed_back}
use Rattle.registers.specs.declared.record.Registers.{Registers}
use Rattle.registers.specs.declared.setting.Setting.{Setting}
use Rattle.sheets.specs.Sheet.{register_words, registers_of, video_list, cursor_list}
use Rattle.sheets.specs.Input.{input_told}
use Rattle.sheets.specs.Lists.{Lists}
use Rattle.sheets.specs.declared.sheet.Sheet.{Sheet}
use Rattle.outputs.specs.Sheet.{sheet_told}
use Rattle.outputs.specs.Text.{refused_line, picture_text, text_of}
use Rattle.outputs.proofs.Lines.{some_text}
use Rattle.outputs.proofs.Sheets.{left, text_refused, sheet_untaken, sheet_unaccepted, text_accepted}
use Rattle.buffers.proofs.Puts.{text_short, text_fits}
use Rattle.vombelishi.specs.Texts.{text_call}

-- What a `?` hands on is the error that it was handed.
pub handed_err : {A : Type 0} (r : Result A Refusal) (q : Refusal) → IsErrAnd r (λ y. y ≡ q) → r ≡ Err q
handed_err r q h = let p = err_from_is_err_and r h in p.1 ∙ ap Err p.2

module _ (file : List ℕ) where
  -- a plate that is refused
  pub text_untaken : (w : Refusal) → input_told file ≡ refusal w → refused_line (why_of w) ≡ text_of file
  text_untaken w e = sym (text_refused file (why_of w) (sheet_untaken file (why_of w) e))

  -- one that is taken apart, its register words loaded and checked
  module _ (s : Sheet) (lists : Lists file s) (n : Registers) (e : n ≡ fresh) where
    told : accept_told n s.registers.now ≡ accept_told fresh (register_words file)
    told = rw (e, lists.registers)

    pub text_unaccepted : (w : Refusal) → refusal w ≡ accept_told n s.registers.now → refused_line (why_of w) ≡ text_of file
    text_unaccepted w p =
        sym (text_refused file (why_of w) (sheet_unaccepted file (why_of w) lists.taken (sym (p ∙ told))))

    pub text_held : (a : Setting) → given a ≡ accept_told n s.registers.now → (g : Registers)
        → g ≡ handed_back (accept_told n s.registers.now) n s.registers.now → picture_text g s.video.now s.cursor.now ≡ text_of file
    text_held a p g left_is =
        let given_is : accept_told fresh (register_words file) ≡ given a = sym (p ∙ told) in
        let own : g ≡ registers_of file = left_is ∙ rw (e, lists.registers, given_is) (left file) in
        rw (own, lists.video, lists.cursor) (sym (text_accepted file lists.taken a given_is))

-- The call: what was put, of a text that has at least a byte.
module _ (file text after : List ℕ) (n : ℕ) (put : Put text after 0 (text_in (length text) (text_of file)) n) where
  some : 1 ≤ length (text_of file)
  unfolding text_of
  some = some_text (registers_of file) (video_list file) (cursor_list file) (sheet_told file)

  none_fits : n ≡ 0 → length text < length (text_of file)
  none_fits z = elim (lt_or_le (length text) (length (text_of file))) [
    | inl l ↦ l
    | inr l ↦ absurd (let e = ap length (text_fits (length text) (text_of file) l) in omega (arith, put.after, some))
  ]

  all_fits : (n ≡ 0 → ⊥) → length (text_of file) ≤ length text
  all_fits z = elim (lt_or_le (length text) (length (text_of file))) [
    | inl l ↦ absurd (z (let e = ap length (text_short (length text) (text_of file) l) in omega (arith, put.after)))
    | inr l ↦ l
  ]

  pub told_short : n ≡ 0 → text_call file (length text) ≡ refused (why 13 0)
  unfolding text_call
  told_short z = rw (lt-ltb (length text) (length (text_of file)) (none_fits z))

  pub told_given : (n ≡ 0 → ⊥) → text_call file (length text) ≡ given n
  unfolding text_call
  told_given z =
      let f = all_fits z in
      let e : n ≡ length (text_of file) = omega (arith, put.after, ap length (text_fits (length text) (text_of file) f)) in
      rw (le-ltb (length text) (length (text_of file)) f, e)

  pub left_short : n ≡ 0 → after ≡ text
  left_short z = put.stored ∙ rw (text_short (length text) (text_of file) (none_fits z))

  pub left_given : (n ≡ 0 → ⊥) → after ≡ sets text 0 (text_of file)
  left_given z = put.stored ∙ rw (text_fits (length text) (text_of file) (all_fits z))
