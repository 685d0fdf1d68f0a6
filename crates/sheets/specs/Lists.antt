-- A plate's four lists as a caller has them that took it apart.
use Rattle.std.specs.Prelude.{ℕ, ◌+◌, ◌*◌, ◌≡◌, List, ⊤}
use Rattle.std.specs.Borrow.{Bor, MutBor, Fml, Array, u32, follows_so}
use mathlib.Core.Option.{none}
use Rattle.refusals.specs.Table.{given}
use Rattle.sheets.specs.Sheet.{register_words, video_list, cursor_list, sound_list, parts_of}
use Rattle.sheets.specs.Input.{input_told}
use Rattle.sheets.specs.declared.sheet.Sheet.{Sheet}

-- The plate is not refused, and each list is the plate's own.
pub record Lists (file : List ℕ) (s : Sheet) : Type 0 where
  pub taken : input_told file ≡ given tt
  pub registers : s.registers.now ≡ register_words file
  pub video : s.video.now ≡ video_list file
  pub cursor : s.cursor.now ≡ cursor_list file
  pub sound : s.sound.now ≡ sound_list file

-- A list that lies in lent memory behind some of its words: 4 bytes on for each.
pub record Behind (lent : MutBor (List ℕ)) (list : Bor (List ℕ)) (words : ℕ) : Type 0 where
  pub memory : list.ref_ptr.0 ≡ lent.ref_ptr.0
  pub place : list.ref_ptr.1 ≡ lent.ref_ptr.1 + 4 * words

-- So does each of the plate's, where its words stand among all.
pub record Places (file : List ℕ) (lent : MutBor (List ℕ)) (s : Sheet) : Type 0 where
  pub registers : Behind lent s.registers 0
  pub video : Behind lent s.video (parts_of file).video
  pub cursor : Behind lent s.cursor (parts_of file).cursor
  pub sound : Behind lent s.sound (parts_of file).sound

-- What the lent words hold once the lists are no longer read, and after a refusal.
abbrev pub Leaves : MutBor (List ℕ) → List ℕ → Fml
Leaves lent left = follows_so (Array u32 16384) (Array u32 16384) lent.ghost_name none (λ _ _. ⊤) (λ last. last ≡ left)
