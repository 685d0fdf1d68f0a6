-- What an answer tells determines the answer: two answers that tell the same are the same. Each case is found again by its number.
use Prim.Native.Nat.{ℕ}
use mathlib.Core.Path.{◌≡◌, refl, sym, ◌∙◌, ap}
use Rattle.std.specs.Prelude.{Result, Ok, Err, IsErrAnd}
use Rattle.std.proofs.lemmas.Result.{err_from_is_err_and}
use mathlib.Core.List.{List, [], ◌∷◌}
use lib.Dec.{eqb}
use Rattle.buffers.specs.Pick.{pick}
use Rattle.refusals.specs.Table.{Why}
use Rattle.refusals.specs.Refusals.{why_of, refusal, says}
use Rattle.refusals.specs.declared.Refusal.{Refusal}
use Rattle.refusals.specs.declared.Refusal.TheVariants.{TooManyWords, Reserved, Unwritten, TestMode, Interlace, Horizontal, Vertical, Width}
use Rattle.refusals.specs.declared.Refusal.TheVariants.{Cursor, Sound, WordCount, Raster, Short, PlateFile, TooLarge, Full, Empty, WordIndex}
use Rattle.refusals.specs.declared.Refusal.TheVariants.{SyncWidth, Camera}
use Rattle.refusals.proofs.Tables.{never}

-- every case, with the detail d where it has one
cases : ℕ → List Refusal
cases d =
    TooManyWords ∷ Reserved d ∷ Unwritten d ∷ TestMode ∷ Interlace ∷ Horizontal ∷ Vertical ∷ Width ∷ Cursor ∷ Sound d ∷ WordCount ∷ Raster
    ∷ Short ∷ PlateFile ∷ TooLarge ∷ Full ∷ Empty ∷ WordIndex ∷ SyncWidth ∷ Camera d ∷ []

numbered : ℕ → List Refusal → Refusal
numbered n [] = WordIndex
numbered n (r ∷ rs) = pick (eqb (why_of r).number n) r (numbered n rs)

back : Why → Refusal
back w = numbered w.number (cases w.detail)

back_told : (r : Refusal) → back (why_of r) ≡ r
unfolding back numbered cases
back_told TooManyWords = refl
back_told (Reserved d) = refl
back_told (Unwritten d) = refl
back_told TestMode = refl
back_told Interlace = refl
back_told Horizontal = refl
back_told Vertical = refl
back_told Width = refl
back_told Cursor = refl
back_told (Sound d) = refl
back_told WordCount = refl
back_told Raster = refl
back_told Short = refl
back_told PlateFile = refl
back_told TooLarge = refl
back_told Full = refl
back_told Empty = refl
back_told WordIndex = refl
back_told SyncWidth = refl
back_told (Camera index) = refl

pub same_refusal : {A : Type 0} (r q : Refusal) → refusal {A = A} r ≡ refusal q → r ≡ q
same_refusal r q e = let w : why_of r ≡ why_of q = cc in sym (back_told r) ∙ (ap back w ∙ back_told q)

pub same_told : {A : Type 0} (x y : Result A Refusal) → says x ≡ says y → x ≡ y
same_told (Ok a) (Ok b) e = ap Ok (let q : a ≡ b = cc in q)
same_told (Ok a) (Err q) e = never e
same_told (Err r) (Ok b) e = never (sym e)
same_told (Err r) (Err q) e = ap Err (same_refusal r q e)

-- what a `?` hands on says the refusal that it was handed
pub handed_on : {A : Type 0} (r : Result A Refusal) (q : Refusal) → IsErrAnd r (λ y. y ≡ q) → says r ≡ refusal q
handed_on r q h = let p = err_from_is_err_and r h in rw (p.1, p.2) refl
