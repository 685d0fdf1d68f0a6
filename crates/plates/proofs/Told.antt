-- What each call tells is its table judged, as it is defined.
use Prim.Native.Nat.{ℕ}
use mathlib.Core.Path.{◌≡◌, refl}
use mathlib.Core.List.{List}
use Rattle.refusals.specs.Table.{judged}
use Rattle.plates.specs.Plate.{sections_of, plate_length}
use Rattle.plates.specs.Read.{read_table, read_told, copy_table, copy_told}
use Rattle.plates.specs.Write.{write_table, write_told}

pub read_told_holds : (file : List ℕ) → read_told file ≡ judged (read_table file) (sections_of file)
unfolding read_told
read_told_holds file = refl

pub copy_told_holds : (file : List ℕ) (places : ℕ) → copy_told file places ≡ judged (copy_table file places) tt
unfolding copy_told
copy_told_holds file places = refl

pub write_told_holds : (rs vs cs ss : List ℕ) (places : ℕ) → write_told rs vs cs ss places ≡ judged (write_table rs vs cs ss places) (plate_length rs vs cs ss)
unfolding write_told
write_told_holds rs vs cs ss places = refl
