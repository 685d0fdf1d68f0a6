-- Tests joined by and, or: what is known of the parts.
use mathlib.Core.Path.{◌≡◌, refl, subst}
use mathlib.Core.Bool.{Bool, true, false, ◌&&◌, ◌||◌, not}
use lib.Dec.{T}
use mathlib.Core.Logic.{◌⊎◌, inl, inr}

pub and_split : (a b : Bool) → a && b ≡ true → (a ≡ true) × (b ≡ true)
and_split true b e = (refl, e)
and_split false b e = let never : true ≡ false = cc in (cc, cc)

pub and_join : {a b : Bool} → a ≡ true → b ≡ true → a && b ≡ true
and_join p q = rw (p, q)

pub or_split : (a b : Bool) → a || b ≡ true → (a ≡ true) ⊎ (b ≡ true)
or_split true b e = inl refl
or_split false b e = inr e

pub or_neither : (a b : Bool) → a || b ≡ false → (a ≡ false) × (b ≡ false)
or_neither true b e = let never : true ≡ false = e in (cc, cc)
or_neither false b e = (refl, e)

pub or_left : {a : Bool} (b : Bool) → a ≡ true → a || b ≡ true
or_left b p = rw p

pub or_right : (a : Bool) {b : Bool} → b ≡ true → a || b ≡ true
or_right true q = refl
or_right false q = q

pub no : false ≡ true → ⊥
no e = subst (λ b. T (not b)) e tt
