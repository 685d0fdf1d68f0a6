-- What a trailer says of its file, by its own rule alone. No public promise reaches this.
use Rattle.std.specs.Prelude.{ℕ, not, List, [], ◌∷◌, length}
use Rattle.refusals.specs.Table.{Told, row, judged}
use Rattle.plates.specs.Plate.{r_of, v_of, c_of, s_of, trailer_rule, sections_of}
use Rattle.plates.specs.declared.Sections.{Sections}

abbrev pub trailer_told : List ℕ → Told Sections
trailer_told file =
    judged (row 14 (not (trailer_rule (length file) (r_of file) (v_of file) (c_of file) (s_of file))) 0 ∷ []) (sections_of file)
