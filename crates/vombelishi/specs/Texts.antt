-- The printer's text in C: 13 where the lent text is too short for all of it.
use Rattle.std.specs.Prelude.{ℕ, List, [], ◌∷◌, ltb, length}
use Rattle.std.proofs.lemmas.List.Edits.{sets}
use Rattle.refusals.specs.Table.{Told, row, judged, unless_refused}
use Rattle.outputs.specs.Text.{text_of}

-- A text to be stored in some places; its length is given.
unfoldable pub text_call : List ℕ → ℕ → Told ℕ
text_call file places = judged (row 13 (ltb places (length (text_of file))) 0 ∷ []) (length (text_of file))

unfoldable pub text_leaves : List ℕ → List ℕ → List ℕ
text_leaves file text = unless_refused (text_call file (length text)) text (sets text 0 (text_of file))
