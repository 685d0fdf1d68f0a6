-- The paper's table: the number and the detail of each case of `Refusal`.
use Rattle.std.specs.Prelude.{Result, Ok, Err}
use Rattle.refusals.specs.Table.{Why, why, Told, given, refused}
use Rattle.refusals.specs.declared.Refusal.{Refusal}
use Rattle.refusals.specs.declared.Refusal.TheVariants.{TooManyWords, Reserved, Unwritten, TestMode, Interlace, Horizontal, Vertical, Width}
use Rattle.refusals.specs.declared.Refusal.TheVariants.{Cursor, Sound, WordCount, Raster, Short, PlateFile, TooLarge, Full, Empty, WordIndex}
use Rattle.refusals.specs.declared.Refusal.TheVariants.{SyncWidth, Camera}

abbrev pub why_of : Refusal → Why
why_of TooManyWords = why 1 0
why_of (Reserved index) = why 2 index
why_of (Unwritten address) = why 3 address
why_of TestMode = why 4 0
why_of Interlace = why 5 0
why_of Horizontal = why 6 0
why_of Vertical = why 7 0
why_of Width = why 8 0
why_of Cursor = why 9 0
why_of (Sound address) = why 10 address
why_of WordCount = why 11 0
why_of Raster = why 12 0
why_of Short = why 13 0
why_of PlateFile = why 14 0
why_of TooLarge = why 15 0
why_of Full = why 16 0
why_of Empty = why 17 0
why_of WordIndex = why 18 0
why_of SyncWidth = why 19 0
why_of (Camera index) = why 20 index

-- A refusal as the paper's table has it.
abbrev pub refusal : {A : Type 0} → Refusal → Told A
refusal r = refused (why_of r)

-- What an answer tells: what was asked for, or the refusal.
abbrev pub says : {A : Type 0} → Result A Refusal → Told A
says (Ok a) = given a
says (Err r) = refusal r
