-- What a number for C says is what the call tells: a refusal's number is not 0 and its detail is below 2^32 wherever its row is the first
-- to hold, so that the one is read above 2^32 and the other below; and a refusal leaves what was lent.
use Prim.Native.Nat.{ℕ, ◌+◌, ◌*◌, ◌^◌, ◌<◌, ◌≤◌}
use mathlib.Core.Path.{◌≡◌, refl, sym, ◌∙◌, ap}
use mathlib.Core.Bool.{Bool, true, false, ◌&&◌}
use mathlib.Core.List.{List, [], ◌∷◌, ◌++◌}
use native.Mathlib.Omega.{arith}
use lib.Arith.{digits_div, digits_mod}
use lib.Dec.{ltb, eqb}
use lib.ListN.{length}
use borrow.Author.Tests.{ltb-true, ltb-false, eqb-true, ne_eqb}
use Rattle.buffers.specs.Pick.{pick}
use Rattle.buffers.proofs.Tests.{and_split}
use Rattle.refusals.specs.Table.{Why, why, Told, given, refused, Row, row, judged, and_then, unless_refused}
use Rattle.registers.specs.Load.{leading, applied, load_table}
use Rattle.registers.specs.Accept.{accept_table, accept_sound_table}
use Rattle.registers.specs.Check.{unwritten, setting_table}
use Rattle.registers.specs.Setting.{setting_of}
use Rattle.registers.specs.Sound.{sound_unwritten, sound_fault, sound_table}
use Rattle.registers.specs.declared.record.Registers.{Registers}
use Rattle.refusals.proofs.Tables.{never}
use Rattle.mixing.specs.Mix.{first_too_large, mix_table}
use Rattle.vombelishi.specs.Code.{answer_code, with_room}
use Rattle.vombelishi.specs.Record.{lacking, record_of, record_told, under_record}
use Rattle.claims.specs.Calls.{ByTable, Kept}
use Rattle.claims.specs.CRows.{of_record, room_for}
use Rattle.claims.specs.CViews.{code_says}
use Rattle.claims.proofs.Tables.{by_table}

-- The row that answers fits a number for C.
abbrev Fitting : List Row → Type 0
Fitting [] = Unit {0}
Fitting (r ∷ rs) = (0 < r.tells.number) × (r.when ≡ true → r.tells.detail < 2 ^ 32) × (r.when ≡ false → Fitting rs)

pub record Fits (rows : List Row) : Type 0 where
  pub fits : Fitting rows

pub no_rows : Fits []
no_rows = record { fits = tt }

-- A row with a detail, and one with detail 0.
pub detailed : {n d : ℕ} {b : Bool} {rs : List Row} → 0 < n → (b ≡ true → d < 2 ^ 32) → (b ≡ false → Fits rs) → Fits (row n b d ∷ rs)
detailed h l f = record { fits = (h, l, λ e. (f e).fits) }

pub plain : {n : ℕ} {b : Bool} {rs : List Row} → 0 < n → Fits rs → Fits (row n b 0 ∷ rs)
plain h f = detailed h (λ e. omega arith) (λ e. f)

-- rows with detail 0 alone, which is seen by computing
abbrev bare : List Row → Bool
bare [] = true
bare (r ∷ rs) = ltb 0 r.tells.number && eqb r.tells.detail 0 && bare rs

bare_fits : (rows : List Row) → bare rows ≡ true → Fitting rows
bare_fits [] e = tt
bare_fits (r ∷ rs) e =
    let p = and_split (ltb 0 r.tells.number && eqb r.tells.detail 0) (bare rs) e in
    let q = and_split (ltb 0 r.tells.number) (eqb r.tells.detail 0) p.0 in
    (ltb-true _ _ q.0, λ h. omega (arith, eqb-true r.tells.detail 0 q.1), λ h. bare_fits rs p.1)

pub plain_rows : {rows : List Row} → bare rows ≡ true → Fits rows
plain_rows {rows} e = record { fits = bare_fits rows e }

fitting_after : (rs more : List Row) → Fitting rs → Fitting more → Fitting (rs ++ more)
fitting_after [] more f g = g
fitting_after (r ∷ rs) more f g = (f.0, f.1, λ e. fitting_after rs more (f.2 e) g)

pub fits_after : {rs more : List Row} → Fits rs → Fits more → Fits (rs ++ more)
fits_after {rs} {more} f g = record { fits = fitting_after rs more f.fits g.fits }

said_refused : (w : Why) → 0 < w.number → w.detail < 2 ^ 32 → code_says (w.number * 2 ^ 32 + w.detail) ≡ refused w
said_refused w h l =
    rw (ne_eqb (w.number * 2 ^ 32 + w.detail) 0 (λ e. omega arith), digits_div w.number l, digits_mod w.number l)

said : {A : Type 0} (rows : List Row) (a : A) → Fitting rows → code_says (answer_code (judged rows a)) ≡ judged rows tt
said [] a f = refl
said (r ∷ rs) a f = go r.when f.1 (λ e. said rs a (f.2 e))
  where
    go : (b : Bool) → (b ≡ true → r.tells.detail < 2 ^ 32) → (b ≡ false → code_says (answer_code (judged rs a)) ≡ judged rs tt)
        → code_says (answer_code (pick b (refused r.tells) (judged rs a))) ≡ pick b (refused r.tells) (judged rs tt)
    go true l more = said_refused r.tells f.0 (l refl)
    go false l more = more refl

-- A call that answers the number of a table goes by that table.
pub by_code : {A : Type 0} {t : Told A} {code : ℕ} (rows : List Row) (a : A) → Fits rows → t ≡ judged rows a → code ≡ answer_code t
    → ByTable (code_says code) rows tt
by_code rows a f e c = by_table tt rows (ap code_says (c ∙ ap answer_code e) ∙ said rows a f.fits)

-- What is left as it was where a call is refused.
pub kept_code : {A B : Type 0} (t : Told A) {code : ℕ} {before after : B} (leaves : Told A → B) → code ≡ answer_code t → after ≡ leaves t
    → ((w : Why) → leaves (refused w) ≡ before) → Kept (code_says code) before after
kept_code (given a) leaves c e was w r = never (sym (ap code_says c) ∙ r)
kept_code (refused v) leaves c e was w r = e ∙ was v

-- The same under a record that may not be there.
pub kept_under : {A B : Type 0} (t : Told Registers) (tells : Registers → Told A) (holds : Registers → B) (then : Registers → B) {code : ℕ} {before after : B}
    → ((g : Registers) → holds g ≡ unless_refused (tells g) before (then g)) → code ≡ answer_code (and_then t tells) → after ≡ under_record t before holds
    → Kept (code_says code) before after
kept_under (given g) tells holds then {before = before} law c e = kept_code (tells g) (λ u. unless_refused u before (then g)) c (e ∙ law g) (λ w. refl)
kept_under (refused v) tells holds then law c e = λ w r. e

-- A call of a record: 13, then the call's own table.
pub record_told_holds : {A : Type 0} (values written : List ℕ) (tells : Registers → Told A) (own : Registers → List Row) (a : Registers → A)
    → ((g : Registers) → tells g ≡ judged (own g) (a g))
    → and_then (record_told values written) tells ≡ judged (of_record values written own) (a (record_of values written))
unfolding record_told
record_told_holds values written tells own a e = go (lacking values written)
  where
    go : (b : Bool) → and_then (judged (row 13 b 0 ∷ []) (record_of values written)) tells
        ≡ pick b (refused (why 13 0)) (judged (own (record_of values written)) (a (record_of values written)))
    go true = refl
    go false = e (record_of values written)

pub record_fits : (values written : List ℕ) (own : Registers → List Row) → ((g : Registers) → Fits (own g)) → Fits (of_record values written own)
record_fits values written own f = plain (omega arith) (f (record_of values written))

pub record_code : {A : Type 0} {code : ℕ} (values written : List ℕ) (tells : Registers → Told A) (own : Registers → List Row) (a : Registers → A)
    → ((g : Registers) → Fits (own g)) → ((g : Registers) → tells g ≡ judged (own g) (a g)) → code ≡ answer_code (and_then (record_told values written) tells)
    → ByTable (code_says code) (of_record values written own) tt
record_code values written tells own a f e c =
    by_code (of_record values written own) (a (record_of values written)) (record_fits values written own f) (record_told_holds values written tells own a e) c

-- 13 for a slice, after a table.
pub room_told : {A B : Type 0} {t : Told A} (needed places : ℕ) (values : A → B) (rows : List Row) (a : A) → t ≡ judged rows a
    → with_room needed places (and_then t (λ b. given (values b))) ≡ judged (rows ++ room_for needed places) (values a)
room_told needed places values rows a e = ap (λ u. with_room needed places (and_then u (λ b. given (values b)))) e ∙ go rows
  where
    go : (rs : List Row) → with_room needed places (and_then (judged rs a) (λ b. given (values b))) ≡ judged (rs ++ room_for needed places) (values a)
    go [] = refl
    go (r ∷ rs) = by r.when (go rs)
      where
        by : (b : Bool) → with_room needed places (and_then (judged rs a) (λ c. given (values c))) ≡ judged (rs ++ room_for needed places) (values a)
            → with_room needed places (and_then (pick b (refused r.tells) (judged rs a)) (λ c. given (values c)))
            ≡ pick b (refused r.tells) (judged (rs ++ room_for needed places) (values a))
        by true q = refl
        by false q = q

pub room_fits : (needed places : ℕ) → Fits (room_for needed places)
room_fits needed places = plain (omega arith) no_rows

pub room_code : {A B : Type 0} {t : Told A} {code : ℕ} (needed places : ℕ) (values : A → B) (rows : List Row) (a : A) → Fits rows → t ≡ judged rows a
    → code ≡ answer_code (with_room needed places (and_then t (λ b. given (values b)))) → ByTable (code_says code) (rows ++ room_for needed places) tt
room_code needed places values rows a f e c =
    by_code (rows ++ room_for needed places) (values a) (fits_after f (room_fits needed places))
    (room_told needed places values rows a e) c

-- The tables with details.
low_slot : (n : ℕ) → ltb n 64 ≡ true → 4 * n < 2 ^ 32
low_slot n e = omega (arith, ltb-true n 64 e)

pub setting_fits : (g : Registers) → Fits (setting_table g)
setting_fits g =
    detailed (omega arith) (low_slot (unwritten g)) (λ e. plain_rows refl)

pub sound_fits : (g : Registers) → Fits (sound_table g)
sound_fits g =
    detailed (omega arith) (low_slot (sound_unwritten g)) (λ e. detailed (omega arith) (low_slot (sound_fault g)) (λ h. no_rows))

-- N is at most 2,048, whatever a record holds.
few_places : (g : Registers) → (setting_of g).n.0 ≤ 2048
unfolding setting_of
few_places g = omega arith

pub mix_fits : (g : Registers) (cells camera : List ℕ) (room : ℕ) → Fits (mix_table g cells camera room)
mix_fits g cells camera room =
    fits_after (setting_fits g)
    (plain (omega arith) (detailed (omega arith) (λ e. omega (arith, ltb-true (first_too_large camera (setting_of g).n.0) _ e, few_places g)) (λ e. no_rows)))

load_fits : (words : List ℕ) → Fits (load_table words)
load_fits words =
    detailed (omega arith) (λ e. omega arith)
    (λ e. detailed (omega arith) (λ h. omega (arith, ltb-false 1024 (length words) e, ltb-true (leading words) (length words) h)) (λ h. no_rows))

pub accept_fits : (g : Registers) (words : List ℕ) → Fits (accept_table g words)
accept_fits g words = fits_after (load_fits words) (setting_fits (applied g words))

pub accept_sound_fits : (g : Registers) (words : List ℕ) → Fits (accept_sound_table g words)
accept_sound_fits g words = fits_after (load_fits words) (sound_fits (applied g words))
