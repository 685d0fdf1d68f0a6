-- A plate put together by its sections.
use mathlib.Core.Path.{◌≡◌, ◌∙◌, ap}
use mathlib.Core.List.{List, ◌++◌, append_assoc}
use Prim.Native.Nat.{ℕ, ◌+◌, ◌*◌, ◌-◌, ◌≤◌}
use native.Mathlib.Omega.{arith}
use lib.ListN.{length, length-append}
use lib.Seq.{sets, length-sets}
use Rattle.buffers.specs.Put.{text_in}
use Rattle.buffers.specs.Words.{bytes_of}
use Rattle.buffers.proofs.Sets.{sets_append}
use Rattle.buffers.proofs.Turns.{bytes_fit}
use Rattle.buffers.proofs.Words.{bytes_append, length_bytes}
use Rattle.plates.specs.Plate.{trailer_of, plate_of, plate_length}

-- a section stored where the ones before it end, with room for it
section :
    (o m n xs ys : List ℕ) (k : ℕ) → m ≡ sets o 0 (bytes_of xs) → n ≡ sets m k (text_in (length m - k) (bytes_of ys)) → k ≡ 4 * length xs
    → k + 4 * length ys ≤ length o → n ≡ sets o 0 (bytes_of (xs ++ ys))
section o m n xs ys k p q e room =
    let l : 0 + length (bytes_of xs) ≡ k = omega (arith, length_bytes xs) in
    let same : length m ≡ length o = ap length p ∙ length-sets o 0 (bytes_of xs) in
    q ∙ ap (sets m k) (bytes_fit ys (length m - k) (omega (arith, same)))
    ∙ rw (p, bytes_append xs ys, sets_append o 0 (bytes_of xs) (bytes_of ys), l)

module _ (rs vs cs ss : List ℕ) where
  pub plate_put :
      (o o1 o2 o3 o4 o5 ts : List ℕ) (v c s t : ℕ)
      → o1 ≡ sets o 0 (text_in (length o - 0) (bytes_of rs))
      → o2 ≡ sets o1 v (text_in (length o1 - v) (bytes_of vs))
      → o3 ≡ sets o2 c (text_in (length o2 - c) (bytes_of cs))
      → o4 ≡ sets o3 s (text_in (length o3 - s) (bytes_of ss))
      → o5 ≡ sets o4 t (text_in (length o4 - t) (bytes_of ts))
      → v ≡ 4 * length rs
      → c ≡ 4 * (length rs + length vs)
      → s ≡ 4 * (length rs + length vs + length cs)
      → t ≡ 4 * (length rs + length vs + length cs + length ss)
      → ts ≡ trailer_of rs vs cs ss
      → plate_length rs vs cs ss ≤ length o
      → o5 ≡ sets o 0 (plate_of rs vs cs ss)
  unfolding plate_of
  plate_put o o1 o2 o3 o4 o5 ts v c s t p1 p2 p3 p4 p5 ev ec es et e room =
      let two = length-append rs vs in
      let three = length-append (rs ++ vs) cs in
      let q1 = p1 ∙ ap (sets o 0) (bytes_fit rs (length o - 0) (omega arith)) in
      let q2 = section o o1 o2 rs vs v q1 p2 ev (omega arith) in
      let q3 = section o o2 o3 (rs ++ vs) cs c q2 p3 (omega (arith, two)) (omega arith) in
      let q4 = section o o3 o4 ((rs ++ vs) ++ cs) ss s q3 p4 (omega (arith, two, three)) (omega arith) in
      let q5 = section o o4 o5 (((rs ++ vs) ++ cs) ++ ss) ts t q4 p5 (omega (arith, two, three, length-append ((rs ++ vs) ++ cs) ss))
      (omega (arith, ap length e)) in
      q5 ∙ simp (append_assoc, e)
