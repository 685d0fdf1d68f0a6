-- From what a call's parts tell to what the call tells: a file is read by its length, then by its trailer, and copied out where it is right.
use mathlib.Core.Path.{◌≡◌, sym, ap}
use mathlib.Core.Bool.{true}
use mathlib.Core.List.{List, [], ◌∷◌}
use Prim.Native.Nat.{ℕ, ◌≤◌}
use lib.ListN.{length}
use lib.Dec.{leb, ltb}
use borrow.Author.Tests.{not-false, leb-true}
use Rattle.std.proofs.lemmas.Bool.{and_parts}
use Rattle.refusals.specs.Table.{Why, given, refused, row, judged, and_then, unless_refused}
use Rattle.refusals.proofs.Tables.{passed, given_passes, and_then_judged}
use Rattle.plates.specs.Plate.{most_bytes, length_rule, trailer_rule, right, r_of, v_of, c_of, s_of, sections_of}
use Rattle.plates.specs.Read.{read_table, read_told, copy_told}
use Rattle.plates.specs.declared.Sections.{Sections}
use Rattle.plates.proofs.Rule.{Ordered, ordered}

-- a file that is read is right, and its sections are those of its trailer
pub record Right (file : List ℕ) (sections : Sections) : Type 0 where
  pub is_right : right file ≡ true
  pub are : sections ≡ sections_of file

pub right_given : (file : List ℕ) (sections : Sections) → given sections ≡ read_told file → Right file sections
unfolding read_told
right_given file sections e =
    let rows = read_table file in
    let p = given_passes (sections_of file) rows sections (sym e) in
    record { is_right = not-false _ (passed 14 rows p.0); are = sym p.1 }

pub given_r : (file : List ℕ) (sections : Sections) → given sections ≡ read_told file → sections.r ≡ r_of file
given_r file sections e = ap (λ (s : Sections). s.r) (right_given file sections e).are

halves :
    (file : List ℕ) → right file ≡ true
    → (length_rule (length file) ≡ true) × (trailer_rule (length file) (r_of file) (v_of file) (c_of file) (s_of file) ≡ true)
halves file e = and_parts (length_rule (length file)) (trailer_rule (length file) (r_of file) (v_of file) (c_of file) (s_of file)) e

pub right_ordered : (file : List ℕ) → right file ≡ true → Ordered (length file) (r_of file) (v_of file) (c_of file) (s_of file)
right_ordered file e = ordered _ _ _ _ _ (halves file e).1

pub right_short : (file : List ℕ) → right file ≡ true → length file ≤ most_bytes
right_short file e = leb-true (length file) most_bytes (and_parts (leb 16 (length file)) (leb (length file) most_bytes) (halves file e).0).1

-- 13 is judged where the file is right
pub copy_rows : (file : List ℕ) (places : ℕ)
    → copy_told file places ≡ and_then (read_told file) (λ sections. judged (row 13 (ltb places sections.r) 0 ∷ []) tt)
unfolding copy_told read_told
copy_rows file places =
    sym (and_then_judged (sections_of file) (read_table file) (λ sections. row 13 (ltb places sections.r) 0 ∷ []) (λ sections. tt))

pub copy_refused :
    (file : List ℕ) (w : Why) (out after : List ℕ) → refused w ≡ read_told file
    → (refused w ≡ copy_told file (length out)) × (out ≡ unless_refused (copy_told file (length out)) out after)
copy_refused file w out after e = let rows = copy_rows file (length out) in (rw (rows, ← e), rw (rows, ← e))
