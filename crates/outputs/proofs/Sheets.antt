-- What a plate's text, picture and sound are: those of its own record and lists where it is taken apart and its register words are accepted, and a
-- refusal's where either is refused.
use Prim.Native.Nat.{ℕ}
use mathlib.Core.Path.{◌≡◌, refl, sym, ◌∙◌, ap}
use mathlib.Core.List.{List, [], ◌∷◌, ◌++◌}
use Rattle.refusals.specs.Table.{Why, Told, given, refused, Row, row, judged, and_then}
use Rattle.refusals.proofs.Tables.{and_then_judged}
use Rattle.registers.specs.Record.{fresh}
use Rattle.registers.specs.Load.{applied}
use Rattle.registers.specs.Setting.{setting_of}
use Rattle.registers.specs.Sound.{sound_told}
use Rattle.registers.specs.Check.{check_told}
use Rattle.registers.specs.Accept.{accept_table, accept_told, accept_sound_table, accept_sound_told}
use Rattle.registers.specs.declared.setting.Setting.{Setting}
use Rattle.registers.proofs.Told.{check_then}
use Rattle.registers.proofs.Accepting.{accepted_both, accepted_sound}
use Rattle.sheets.specs.Sheet.{register_words, registers_of, video_list, cursor_list, sound_list}
use Rattle.sheets.specs.Input.{input_table, input_told}
use Rattle.cells.specs.Picture.{words_wrong, picture_told}
use Rattle.outputs.specs.Sheet.{sheet_told}
use Rattle.outputs.specs.Text.{refused_line, first_lines, text_by, picture_text, text_of}
use Rattle.outputs.specs.Strip.{first_strips, picture_by, picture_of}
use Rattle.outputs.specs.Wave.{wave_told, wave_by, wave_of}

module _ (file : List ℕ) where
  abbrev words : List ℕ
  words = register_words file

  -- the record that the words leave
  pub left : applied fresh words ≡ registers_of file
  unfolding registers_of
  left = refl

  -- 11, of a setting
  abbrev counts : Setting → List Row
  counts s = row 11 (words_wrong s (video_list file) (cursor_list file)) 0 ∷ []

  -- a picture, after its setting
  picture_then : picture_told (registers_of file) (video_list file) (cursor_list file) ≡ and_then (check_told (registers_of file)) (λ s. judged (counts s) s)
  unfolding picture_told
  picture_then = check_then (registers_of file) counts (λ s. s)

  sheet_then : sheet_told file ≡ and_then (input_told file) (λ _. and_then (accept_told fresh words) (λ s. judged (counts s) s))
  unfolding sheet_told input_told accept_told registers_of
  sheet_then =
      let s : Setting = setting_of (registers_of file) in
      sym (ap (λ (t : Told Setting). and_then (input_told file) (λ _. t)) (and_then_judged s (accept_table fresh words) counts (λ s. s))
      ∙ and_then_judged tt (input_table file) (λ _. accept_table fresh words ++ counts s) (λ _. s))

  wave_then : wave_told file ≡ and_then (input_told file) (λ _. accept_sound_told fresh words)
  unfolding wave_told input_told accept_sound_told
  wave_then = sym (and_then_judged tt (input_table file) (λ _. accept_sound_table fresh words) (λ _. tt))

  -- a plate that is refused
  module _ (w : Why) where
    pub text_refused : sheet_told file ≡ refused w → text_of file ≡ refused_line w
    unfolding text_of text_by first_lines
    text_refused e = rw e

    pub picture_refused : sheet_told file ≡ refused w → picture_of file ≡ []
    unfolding picture_of picture_by first_strips
    picture_refused e = rw e

    pub wave_refused : wave_told file ≡ refused w → wave_of file ≡ []
    unfolding wave_of
    wave_refused e = rw e

    -- since it is not taken apart,
    pub sheet_untaken : input_told file ≡ refused w → sheet_told file ≡ refused w
    sheet_untaken e = sheet_then ∙ rw e

    pub wave_untaken : input_told file ≡ refused w → wave_told file ≡ refused w
    wave_untaken e = wave_then ∙ rw e

    -- or since its register words are refused
    pub sheet_unaccepted : input_told file ≡ given tt → accept_told fresh words ≡ refused w → sheet_told file ≡ refused w
    sheet_unaccepted e f = sheet_then ∙ rw (e, f)

    pub wave_unaccepted : input_told file ≡ given tt → accept_sound_told fresh words ≡ refused w → wave_told file ≡ refused w
    wave_unaccepted e f = wave_then ∙ rw (e, f)

  -- and one that is taken apart, with its register words accepted: for a picture,
  module _ (e : input_told file ≡ given tt) (s : Setting) (f : accept_told fresh words ≡ given s) where
    pub sheet_accepted : sheet_told file ≡ picture_told (registers_of file) (video_list file) (cursor_list file)
    sheet_accepted =
        let checked : check_told (registers_of file) ≡ given s = rw (← left) (accepted_both fresh words s f).1 in
        sheet_then ∙ rw (e, f) (sym (picture_then ∙ rw checked))

    pub text_accepted : text_of file ≡ picture_text (registers_of file) (video_list file) (cursor_list file)
    unfolding text_of picture_text
    text_accepted = ap (text_by (registers_of file) (video_list file) (cursor_list file)) sheet_accepted

    pub picture_accepted : picture_of file ≡ picture_by (registers_of file) (video_list file) (cursor_list file)
        (picture_told (registers_of file) (video_list file) (cursor_list file))
    unfolding picture_of
    picture_accepted = ap (picture_by (registers_of file) (video_list file) (cursor_list file)) sheet_accepted

  -- and for its sound
  pub sound_accepted : input_told file ≡ given tt → accept_sound_told fresh words ≡ given tt
      → wave_of file ≡ wave_by (registers_of file) (sound_list file) (sound_told (registers_of file))
  unfolding wave_of
  sound_accepted e f =
      let sound : sound_told (registers_of file) ≡ given tt = rw (← left) (accepted_sound fresh words f) in
      rw (wave_then, e, f, sound)
