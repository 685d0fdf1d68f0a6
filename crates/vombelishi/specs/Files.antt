-- Plate files in C: the call's own refusals, then 13 for a slice that is lent for the answer.
use Rattle.std.specs.Prelude.{ℕ, List, [], ◌∷◌}
use Rattle.refusals.specs.Table.{Told, given, and_then}
use Rattle.plates.specs.Read.{read_told}
use Rattle.plates.specs.declared.Sections.{Sections}
use Rattle.vombelishi.specs.Code.{with_room}

-- The byte at which registers, video, cursor, sound and trailer start; then R, V, C, S.
unfoldable pub nine_of : Sections → List ℕ
nine_of p =
    p.registers ∷ p.video ∷ p.cursor ∷ p.sound ∷ p.trailer ∷ p.r ∷ p.v ∷ p.c ∷ p.s ∷ []

unfoldable pub read_call : List ℕ → ℕ → Told (List ℕ)
read_call file room = with_room 9 room (and_then (read_told file) (λ p. given (nine_of p)))
