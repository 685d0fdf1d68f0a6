-- What a program writes of a plate, piece by piece, by a table of refusals.
use Rattle.std.specs.Prelude.{ℕ, ◌≡◌, List, length}
use Rattle.std.proofs.lemmas.List.Edits.{sets}
use Rattle.refusals.specs.Table.{Why, Row, Passes, First}
use Rattle.cells.specs.Picture.{picture_table}
use Rattle.claims.specs.Views.{PictureLists, PieceRun}

-- These bytes stand at the front of lent memory, the rest of it is as it was, and their number is answered. Of no bytes: nothing changes, and 0 is answered.
abbrev pub Stored : {A : Type 0} → PieceRun A → List ℕ → Type 0
Stored run text = (run.after ≡ sets run.before 0 text) × (run.bytes ≡ length text)

-- What is asked for where no row's test holds, and what says the refusal where a row is the first whose test does.
pub record StoredBy {A : Type 0} (run : PieceRun A) (rows : List Row) (asked : List ℕ) (refusal : Why → List ℕ) : Type 0 where
  pub given : Passes rows → Stored run asked
  pub refused : (w : Why) → First rows w → Stored run (refusal w)

-- The table of the picture that a piece is of.
abbrev pub table_of : PieceRun PictureLists → List Row
table_of run = picture_table run.of.registers run.of.video run.of.cursor
