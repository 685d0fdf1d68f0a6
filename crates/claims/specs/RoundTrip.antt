-- What it is for a plate to read back, and to be cut at its own section starts.
use Rattle.std.specs.Prelude.{ℕ, ◌+◌, ◌/◌, ◌≤◌, ◌≡◌, List, ◌++◌, length}
use Rattle.std.proofs.lemmas.List.Edits.{sets}
use Rattle.std.proofs.Math.Seq.{slice}
use Rattle.refusals.specs.Table.{given}
use Rattle.plates.specs.Plate.{sections_by}
use Rattle.plates.specs.declared.Sections.{Sections}
use Rattle.claims.specs.Calls.{Every}
use Rattle.claims.specs.Views as call
use Rattle.claims.specs.Views.{CopyRun, WriteRun}

-- Every reading of a file answers the sections of four lists, and every copying out of it into memory that has room the lists in order.
pub record ReadsBack (file rs vs cs ss : List ℕ) : Type 0 where
  pub reading : Every call.read λ run. run.file ≡ file
      → run.answer
      ≡ given (sections_by (length rs + (length vs + (length cs + length ss))) (length vs + (length cs + length ss)) (length cs + length ss) (length ss))
  pub copying : Every call.copy_out λ run. run.file ≡ file → length rs + (length vs + (length cs + length ss)) ≤ length run.before
      → (run.answer ≡ given tt) × (run.after ≡ sets run.before 0 (rs ++ vs ++ cs ++ ss))

-- What is written is what was copied out, cut where each section starts.
pub record Cut (sections : Sections) (copy : CopyRun) (again : WriteRun) : Type 0 where
  pub registers : again.registers ≡ slice (sections.registers / 4) (sections.video / 4) copy.after
  pub video : again.video ≡ slice (sections.video / 4) (sections.cursor / 4) copy.after
  pub cursor : again.cursor ≡ slice (sections.cursor / 4) (sections.sound / 4) copy.after
  pub sound : again.sound ≡ slice (sections.sound / 4) (sections.trailer / 4) copy.after
