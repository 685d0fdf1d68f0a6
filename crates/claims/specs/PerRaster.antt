-- Marks per raster in lent numbers: each raster's three, what one replacement leaves, and series of replacements over the calls' own runs.
use Rattle.std.specs.Prelude.{ℕ, ◌+◌, ◌*◌, ◌/◌, ◌<◌, ◌≤◌, true, ◌≡◌, List, [], ◌∷◌, ◌≢◌, length, get_or, set}
use Rattle.refusals.specs.Table.{given}
use Rattle.registers.specs.Setting.{setting_of, raster_words}
use Rattle.registers.specs.declared.record.Registers.{Registers}
use Rattle.cells.specs.Cell.{in_display, covered}
use Rattle.cells.specs.Picture.{picture_told}
use Rattle.marks.specs.Count.{total}
use Rattle.marks.specs.Summaries.{raster_marks, least_grey, greatest_grey, displayed_rasters}
use Rattle.claims.specs.Calls.{Ran}
use Rattle.claims.specs.Views as call
use Rattle.claims.specs.Views.{MarksRun, SummariesRun, ReplaceRun}

-- The three numbers of displayed raster r, which is raster VDS + r of the frame: its mark count, its least and its greatest grey.
pub record HasEntry (g : Registers) (video cursor : List ℕ) (threshold r : ℕ) (numbers : List ℕ) : Type 0 where
  pub count : get_or numbers (3 * r) 0 ≡ raster_marks g (setting_of g) video cursor threshold ((setting_of g).vds.0 + r)
  pub least : get_or numbers (3 * r + 1) 0 ≡ least_grey g (setting_of g) video cursor ((setting_of g).vds.0 + r)
  pub greatest : get_or numbers (3 * r + 2) 0 ≡ greatest_grey g (setting_of g) video cursor ((setting_of g).vds.0 + r)

-- What the lent numbers hold where the entries were made: one for each of the VDE - VDS displayed rasters, and the rest as it was.
pub record EntriesMade (run : SummariesRun) : Type 0 where
  pub long : length run.after ≡ length run.before
  pub each : (r : ℕ) → r < displayed_rasters (setting_of run.registers)
      → HasEntry run.registers run.video run.cursor run.threshold r run.after
  pub beyond : (k : ℕ) → 3 * displayed_rasters (setting_of run.registers) ≤ k → get_or run.after k 0 ≡ get_or run.before k 0

-- The counts of all entries, added up.
abbrev pub counts_in : Registers → List ℕ → ℕ
counts_in g numbers = total (λ r. get_or numbers (3 * r) 0) (displayed_rasters (setting_of g))

-- The two calls were asked of one picture and one threshold.
pub record SameMarks (run : SummariesRun) (count : MarksRun) : Type 0 where
  pub registers_are : count.registers ≡ run.registers
  pub video_is : count.video ≡ run.video
  pub cursor_is : count.cursor ≡ run.cursor
  pub threshold_is : count.threshold ≡ run.threshold

-- The cursor covers every display position of displayed raster r.
abbrev pub CoveredRaster : Registers → List ℕ → ℕ → Type 0
CoveredRaster g cursor r =
    (x : ℕ) → in_display (setting_of g) x ((setting_of g).vds.0 + r) ≡ true → covered (setting_of g) cursor x ((setting_of g).vds.0 + r) ≡ true

-- The displayed raster, from VDS on, that the word to be replaced belongs to.
abbrev pub raster_in : ReplaceRun → ℕ
raster_in run = run.index / raster_words (setting_of run.registers)

-- What is left where a word was replaced: the list with the word in its place, its raster's entry made afresh from that list, and every
-- other number as it was.
pub record WordReplaced (run : ReplaceRun) : Type 0 where
  pub list : run.list ≡ set run.video run.index run.word
  pub displays : raster_in run < displayed_rasters (setting_of run.registers)
  pub long : length run.after ≡ length run.before
  pub entry : HasEntry run.registers run.list run.cursor run.threshold (raster_in run) run.after
  pub others : (k : ℕ) → k / 3 ≢ raster_in run → get_or run.after k 0 ≡ get_or run.before k 0

-- The replacement was run on this list and these numbers.
pub record RanOn (g : Registers) (cursor : List ℕ) (threshold : ℕ) (video numbers : List ℕ) (run : ReplaceRun) : Type 0 where
  pub ran : Ran call.replace run
  pub registers_are : run.registers ≡ g
  pub cursor_is : run.cursor ≡ cursor
  pub threshold_is : run.threshold ≡ threshold
  pub video_is : run.video ≡ video
  pub numbers_are : run.before ≡ numbers

-- A series, refused ones among them: each was run on the list and the numbers that the one before left, the first one first.
abbrev pub ReplaceSeries : Registers → List ℕ → ℕ → List ℕ → List ℕ → List ReplaceRun → Type 0
ReplaceSeries g cursor threshold video numbers [] = Unit {0}
ReplaceSeries g cursor threshold video numbers (run ∷ runs) =
    RanOn g cursor threshold video numbers run × ReplaceSeries g cursor threshold run.list run.after runs

-- The list and the numbers at its end.
abbrev pub list_after : List ℕ → List ReplaceRun → List ℕ
list_after video [] = video
list_after video (run ∷ runs) = list_after run.list runs

abbrev pub numbers_after : List ℕ → List ReplaceRun → List ℕ
numbers_after numbers [] = numbers
numbers_after numbers (run ∷ runs) = numbers_after run.after runs

-- A second run that makes the entries afresh, from another list, into numbers that are as they were before the first.
pub record Afresh (first : SummariesRun) (video : List ℕ) (last : SummariesRun) : Type 0 where
  pub registers_are : last.registers ≡ first.registers
  pub cursor_is : last.cursor ≡ first.cursor
  pub threshold_is : last.threshold ≡ first.threshold
  pub video_is : last.video ≡ video
  pub numbers_were : last.before ≡ first.before

-- A picture that is not refused, and room for its entries.
pub record RightEntries (g : Registers) (video cursor before : List ℕ) : Type 0 where
  pub picture : picture_told g video cursor ≡ given (setting_of g)
  pub room : 3 * displayed_rasters (setting_of g) ≤ length before
