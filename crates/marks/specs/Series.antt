-- A series of replacements: what the video list and the kept numbers are after it.
use Rattle.std.specs.Prelude.{ℕ, List, [], ◌∷◌, length}
use Rattle.registers.specs.declared.record.Registers.{Registers}
use Rattle.marks.specs.Summaries.{summaries_leaves, video_leaves, replace_leaves}

-- A word that is put at an index of the list.
pub record Replacement : Type 0 where
  pub index : ℕ
  pub word : ℕ

-- The video list, and the numbers kept of its displayed rasters.
pub record KeptEntries : Type 0 where
  pub video : List ℕ
  pub numbers : List ℕ

-- Numbers made afresh, beside their list.
abbrev pub kept_fresh : Registers → List ℕ → ℕ → List ℕ → List ℕ → KeptEntries
kept_fresh g cursor threshold out video = record { video = video; numbers = summaries_leaves g video cursor threshold out }

-- After one replacement, refused or not, and after each of a series, the first one first.
abbrev pub kept_once : Registers → List ℕ → ℕ → KeptEntries → Replacement → KeptEntries
kept_once g cursor threshold kept r =
    record {
      video = video_leaves g kept.video cursor r.index r.word (length kept.numbers);
      numbers = replace_leaves g kept.video cursor threshold r.index r.word kept.numbers;
    }

unfoldable pub kept_after : Registers → List ℕ → ℕ → KeptEntries → List Replacement → KeptEntries
kept_after g cursor threshold kept [] = kept
kept_after g cursor threshold kept (r ∷ rs) = kept_after g cursor threshold (kept_once g cursor threshold kept r) rs
