-- A judged table answers by that table, and where it refuses nothing is changed.
use mathlib.Core.Path.{◌≡◌, sym, ◌∙◌, ap, subst}
use mathlib.Core.List.{List, [], ◌∷◌}
use mathlib.Core.Logic.{inl, inr}
use Rattle.refusals.specs.Table.{Why, Told, Row, judged, unless_refused, First}
use Rattle.refusals.proofs.Tables.{passes_given, given_passes, refused_first, first_refused}
use Rattle.claims.specs.Calls.{numbers, OneOf, ByTable, Kept}

module _ {A : Type 0} (a : A) where
  first_number : (rows : List Row) (w : Why) → First rows w → OneOf w.number (numbers rows)
  first_number [] w f = f
  first_number (r ∷ rs) w (inl f) = inl (ap (λ (v : Why). v.number) (sym f.1))
  first_number (r ∷ rs) w (inr f) = inr (first_number rs w f.1)

  judged_table : (rows : List Row) → ByTable (judged rows a) rows a
  judged_table rows =
      record {
        given_when = (λ e. (given_passes a rows a e).0, passes_given a rows);
        given_what = λ b e. sym (given_passes a rows b e).1;
        refused_when = λ w. (refused_first a rows w, first_refused a rows w);
        refused_with = λ w e. first_number rows w (refused_first a rows w e);
      }

  -- An answer that tells what a table judges.
  pub by_table : {t : Told A} (rows : List Row) → t ≡ judged rows a → ByTable t rows a
  by_table rows e = subst (λ (u : Told A). ByTable u rows a) (sym e) (judged_table rows)

-- What is left as it was where a call is refused.
pub kept : {A B : Type 0} {t u : Told A} {before after : B} (then : B) → u ≡ t → after ≡ unless_refused t before then → Kept u before after
kept {before = before} then e h w r = h ∙ ap (λ u. unless_refused u before then) (sym e ∙ r)
