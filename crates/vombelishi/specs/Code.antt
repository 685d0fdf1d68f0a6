-- What a call answers in C: one number for each answer, and what a lent place holds after it.
use Rattle.std.specs.Prelude.{ℕ, ◌+◌, ◌*◌, ◌^◌, List, [], ◌∷◌, ltb}
use Rattle.std.proofs.lemmas.List.Edits.{sets}
use Rattle.refusals.specs.Table.{Told, given, refused, row, judged, and_then}

-- A refusal is its number × 2^32 and its detail; 0 is success.
abbrev pub answer_code : {A : Type 0} → Told A → ℕ
answer_code (given a) = 0
answer_code (refused w) = w.number * 2 ^ 32 + w.detail

-- 13 where a slice lent for the answer is too short, after every refusal of the call itself.
abbrev pub with_room : {A : Type 0} → ℕ → ℕ → Told A → Told A
with_room needed room told = and_then told (λ a. judged (row 13 (ltb room needed) 0 ∷ []) a)

-- The values given, stored from the first place on; where the call is refused, nothing is.
abbrev pub stored_by : {A : Type 0} → Told (List A) → List A → List A
stored_by (given values) was = sets was 0 values
stored_by (refused w) was = was

-- The value given, in the cell that is lent for it; where the call is refused, the cell holds what it held.
abbrev pub cell_by : {A : Type 0} → Told A → A → A
cell_by (given value) was = value
cell_by (refused w) was = was

-- One part of the value given, in a cell of its own; where the call is refused, the cell holds what it held.
abbrev pub part_by : {A B : Type 0} → Told A → (A → B) → B → B
part_by (given value) part was = part value
part_by (refused w) part was = was
