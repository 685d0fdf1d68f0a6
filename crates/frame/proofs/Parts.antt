-- A stretch of a list written through a part of it: what the whole list then holds.
use Prim.Native.Nat.{ℕ, ◌+◌, ◌-◌, ◌<◌, ◌≤◌}
use mathlib.Core.Path.{◌≡◌, ap, ◌∙◌, sym}
use mathlib.Core.List.{List, ◌++◌}
use native.Mathlib.Omega.{arith}
use borrow.Rule.Slice.PartMut.{put_mid, post_of, mid_of, same_len_mid}
use lib.ListN.{length, get_or, take, drop, replicate, length-take, length-drop, length-replicate}
use Rattle.std.proofs.lemmas.List.{get_or-take, get_or-drop, get_or_append_left, get_or-append_right, get_or-replicate}
use Rattle.buffers.specs.Painted.{painted}
use Rattle.buffers.proofs.Paints.{Paints, paints_of}

-- From place a, which is i, k places up to b.
module _ (xs ys : List ℕ) (a k i b : ℕ) (start : a ≡ i) (end : i + k ≡ b) (fits : b ≤ length xs) where
  pub part_long : length (mid_of a k xs) ≡ k
  part_long = simp (length-take, length-drop) (omega arith)

  -- What stands in the part is what the rule says of its places in the whole.
  pub part_held : (f : ℕ → ℕ) → length ys ≡ k → ((j : ℕ) → j < k → get_or ys j 0 ≡ f (i + j)) → Paints 0 xs (put_mid a k xs ys) i b f
  part_held f long right =
      record { len = same_len_mid a k xs ys (long ∙ sym part_long); low = below; on = inside; high = above }
    where
      before : length (take a xs) ≡ a
      before = simp length-take (omega arith)

      behind : (n : ℕ) → a ≤ n → get_or (put_mid a k xs ys) n 0 ≡ get_or (ys ++ post_of a k xs) (n - a) 0
      behind n h = get_or-append_right (take a xs) (ys ++ post_of a k xs) a n 0 before h

      below : (n : ℕ) → n < i → get_or (put_mid a k xs ys) n 0 ≡ get_or xs n 0
      below n h = get_or_append_left (take a xs) (ys ++ post_of a k xs) 0 n (omega (arith, before)) ∙ get_or-take a xs n 0 (omega arith)

      inside : (n : ℕ) → i ≤ n → n < b → get_or (put_mid a k xs ys) n 0 ≡ f n
      inside n h t =
          let e : i + (n - a) ≡ n = omega arith in
          behind n (omega arith) ∙ get_or_append_left ys (post_of a k xs) 0 (n - a) (omega (arith, long)) ∙ right (n - a) (omega arith) ∙ ap f e

      above : (n : ℕ) → b ≤ n → get_or (put_mid a k xs ys) n 0 ≡ get_or xs n 0
      above n h =
          let e : a + (k + (n - a - k)) ≡ n = omega arith in
          behind n (omega arith)
          ∙ get_or-append_right ys (post_of a k xs) k (n - a) 0 long (omega arith)
          ∙ get_or-drop k (drop a xs) (n - a - k) 0
          ∙ get_or-drop a xs (k + (n - a - k)) 0
          ∙ ap (λ (m : ℕ). get_or xs m 0) e

  -- The same of a part that was painted, by a rule of its own places.
  pub part_painted : (f g : ℕ → ℕ) (n : ℕ) → n ≡ k → ys ≡ painted (mid_of a k xs) 0 n g → ((j : ℕ) → j < k → g j ≡ f (i + j))
      → Paints 0 xs (put_mid a k xs ys) i b f
  part_painted f g n whole made same =
      let part = paints_of {d = 0} {f = g} (omega (arith, whole, part_long)) made in
      part_held f (part.len ∙ part_long) (λ j h. part.on j (omega arith) (omega (arith, whole)) ∙ same j h)

  -- Filled with one cell.
  pub part_filled : (v : ℕ) → ys ≡ replicate (length (mid_of a k xs)) v → Paints 0 xs (put_mid a k xs ys) i b (λ n. v)
  part_filled v e =
      part_held (λ n. v) (rw (e, length-replicate) part_long)
      (λ j h. rw e (get_or-replicate (length (mid_of a k xs)) j v 0 (omega (arith, part_long))))

  -- Copied from a line, from place c of it on.
  pub part_copied : (line : List ℕ) (c : ℕ) → ys ≡ take k (drop c line) → c + k ≤ length line
      → Paints 0 xs (put_mid a k xs ys) i b (λ n. get_or line (c + (n - i)) 0)
  part_copied line c e long =
      part_held (λ n. get_or line (c + (n - i)) 0) (rw e (simp (length-take, length-drop) (omega arith)))
      (λ j h.
      let at : i + j - i ≡ j = omega arith in
      rw (e, at) (get_or-take k (drop c line) j 0 h ∙ get_or-drop c line j 0))
