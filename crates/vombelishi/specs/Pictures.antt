-- Pictures in C: 13 for what is no record, then the call's own refusals, then 13 for a slice that is lent for the answer.
use Rattle.std.specs.Prelude.{ℕ, cond, List, [], ◌∷◌}
use Rattle.refusals.specs.Table.{Told, given, and_then}
use Rattle.colours.specs.Apart.{apart_of}
use Rattle.colours.specs.Colour.{colour_of}
use Rattle.colours.specs.declared.apart.Apart.{Apart}
use Rattle.frame.specs.Frame.{frame_told, frame_leaves, raster_told, raster_leaves}
use Rattle.marks.specs.Marks.{marks_told}
use Rattle.mixing.specs.Mix.{mix_told, mix_leaves}
use Rattle.stretch.specs.Stretch.{stretch_told}
use Rattle.stretch.specs.declared.found.Stretch.{Stretch}
use Rattle.vombelishi.specs.Code.{with_room}
use Rattle.vombelishi.specs.Record.{record_told, under_record}

unfoldable pub frame_call : List ℕ → List ℕ → List ℕ → List ℕ → ℕ → Told (Unit {0})
frame_call values written video cursor room = and_then (record_told values written) (λ g. frame_told g video cursor room)

unfoldable pub frame_call_leaves : List ℕ → List ℕ → List ℕ → List ℕ → List ℕ → List ℕ
frame_call_leaves values written video cursor cells = under_record (record_told values written) cells (λ g. frame_leaves g video cursor cells)

unfoldable pub raster_call : List ℕ → List ℕ → List ℕ → List ℕ → ℕ → ℕ → Told (Unit {0})
raster_call values written video cursor y room = and_then (record_told values written) (λ g. raster_told g video cursor y room)

unfoldable pub raster_call_leaves : List ℕ → List ℕ → List ℕ → List ℕ → ℕ → List ℕ → List ℕ
raster_call_leaves values written video cursor y cells =
    under_record (record_told values written) cells (λ g. raster_leaves g video cursor y cells)

-- The words of a raster: where they start in the caller's list, and how many they are.
unfoldable pub found_told : List ℕ → List ℕ → List ℕ → ℕ → Told Stretch
found_told values written video y = and_then (record_told values written) (λ g. stretch_told g video y)

unfoldable pub words_call : List ℕ → List ℕ → List ℕ → ℕ → ℕ → Told (List ℕ)
words_call values written video y room =
    with_room 2 room (and_then (found_told values written video y) (λ p. given (p.start ∷ p.count ∷ [])))

-- The mark count.
unfoldable pub marks_call : List ℕ → List ℕ → List ℕ → List ℕ → ℕ → Told ℕ
marks_call values written video cursor threshold =
    and_then (record_told values written) (λ g. marks_told g video cursor threshold)

-- The colour of a pixel and its supremacy, 1 or 0, each in a cell of its own.
unfoldable pub colour_call : List ℕ → List ℕ → ℕ → ℕ → Told Apart
colour_call values written depth pixel = and_then (record_told values written) (λ g. given (apart_of (colour_of g depth pixel)))

abbrev pub colour_part : Apart → ℕ
colour_part shown = shown.colour

abbrev pub supremacy_part : Apart → ℕ
supremacy_part shown = cond shown.supremacy 1 0

-- A raster's cells over a camera's colours.
unfoldable pub mix_call : List ℕ → List ℕ → List ℕ → List ℕ → ℕ → Told (Unit {0})
mix_call values written cells camera room = and_then (record_told values written) (λ g. mix_told g cells camera room)

unfoldable pub mix_call_leaves : List ℕ → List ℕ → List ℕ → List ℕ → List ℕ → List ℕ
mix_call_leaves values written cells camera mixed = under_record (record_told values written) mixed (λ g. mix_leaves g cells camera mixed)
