-- Marks per raster in C: 13 for what is no record, then the call's own refusals.
use Rattle.std.specs.Prelude.{ℕ, List}
use Rattle.refusals.specs.Table.{Told, and_then}
use Rattle.marks.specs.Summaries.{summaries_told, summaries_leaves, replace_told, video_leaves, replace_leaves}
use Rattle.vombelishi.specs.Record.{record_told, under_record}

unfoldable pub summaries_call : List ℕ → List ℕ → List ℕ → List ℕ → ℕ → Told (Unit {0})
summaries_call values written video cursor room = and_then (record_told values written) (λ g. summaries_told g video cursor room)

unfoldable pub summaries_call_leaves : List ℕ → List ℕ → List ℕ → List ℕ → ℕ → List ℕ → List ℕ
summaries_call_leaves values written video cursor threshold entries =
    under_record (record_told values written) entries (λ g. summaries_leaves g video cursor threshold entries)

-- One word replaced: the answer, what the list holds, and what the entries do.
unfoldable pub replace_call : List ℕ → List ℕ → List ℕ → List ℕ → ℕ → ℕ → Told (Unit {0})
replace_call values written video cursor index room = and_then (record_told values written) (λ g. replace_told g video cursor index room)

unfoldable pub video_call_leaves : List ℕ → List ℕ → List ℕ → List ℕ → ℕ → ℕ → ℕ → List ℕ
video_call_leaves values written video cursor index word room =
    under_record (record_told values written) video (λ g. video_leaves g video cursor index word room)

unfoldable pub replace_call_leaves : List ℕ → List ℕ → List ℕ → List ℕ → ℕ → ℕ → ℕ → List ℕ → List ℕ
replace_call_leaves values written video cursor threshold index word entries =
    under_record (record_told values written) entries (λ g. replace_leaves g video cursor threshold index word entries)
