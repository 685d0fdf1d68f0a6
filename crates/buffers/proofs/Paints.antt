-- Painting, place by place: what a list holds at each place after a stretch of it was painted by a rule, and how stretches join.
use Prim.Native.Nat.{ℕ, zero, suc, ◌+◌, ◌≤◌, ◌<◌}
use mathlib.Core.Bool.{Bool, true, false}
use mathlib.Core.Path.{◌≡◌, refl, sym, ap, ◌∙◌}
use mathlib.Core.List.{List, [], ◌∷◌}
use mathlib.Core.Logic.{inl, inr}
use native.Mathlib.Nat.{not-suc-le-zero, le_of_suc-le-suc, add-zero, zero-add, add-suc, suc-add}
use native.Mathlib.Omega.{arith}
use borrow.Author.Tests.{lt-ltb, le-ltb, le-leb, lt-leb}
use lib.Dec.{ltb, leb}
use lib.ListN.{length, get_or, set, length-set, get_or-eq_default}
use lib.Seq.{ext_get_or, get_or-set_same, get_or-set_other}
use Rattle.buffers.specs.Pick.{pick}
use Rattle.buffers.specs.Painted.{each_from, painted}
use Rattle.buffers.proofs.Split.{lt_or_le}

module _ {A : Type 0} where
  pub length_each : (k : ℕ) (rule : ℕ → A → A) (l : List A) → length (each_from k rule l) ≡ length l
  unfolding each_from
  length_each k rule [] = refl
  length_each k rule (x ∷ l) = ap suc (length_each (suc k) rule l)

  pub get_d_each : (k : ℕ) (rule : ℕ → A → A) (l : List A) (i : ℕ) (d : A) → i < length l → get_or (each_from k rule l) i d ≡ rule (k + i) (get_or l i d)
  unfolding each_from
  get_d_each k rule [] i d h = absurd (not-suc-le-zero h)
  get_d_each k rule (x ∷ l) zero d h = ap (λ (n : ℕ). rule n x) (sym (add-zero k))
  get_d_each k rule (x ∷ l) (suc i) d h =
      get_d_each (suc k) rule l i d (le_of_suc-le-suc h) ∙ ap (λ (n : ℕ). rule n (get_or l i d)) (suc-add k i ∙ sym (add-suc k i))

  pub length_painted : (l : List A) (a b : ℕ) (f : ℕ → A) → length (painted l a b f) ≡ length l
  unfolding painted
  length_painted l a b f = length_each 0 _ l

  pub get_d_painted : (l : List A) (a b : ℕ) (f : ℕ → A) (i : ℕ) (d : A) → i < length l
      → get_or (painted l a b f) i d ≡ pick (leb a i) (pick (ltb i b) (f i) (get_or l i d)) (get_or l i d)
  unfolding painted
  get_d_painted l a b f i d h =
      get_d_each 0 _ l i d h
      ∙ ap (λ (n : ℕ). pick (leb a n) (pick (ltb n b) (f n) (get_or l i d)) (get_or l i d)) (zero-add i)

-- From l to m the places from a up to b are painted by the rule f, and no other place is changed.
pub record Paints {A : Type 0} (d : A) (l m : List A) (a b : ℕ) (f : ℕ → A) : Type 0 where
  pub len : length m ≡ length l
  pub low : (k : ℕ) → k < a → get_or m k d ≡ get_or l k d
  pub on : (k : ℕ) → a ≤ k → k < b → get_or m k d ≡ f k
  pub high : (k : ℕ) → b ≤ k → get_or m k d ≡ get_or l k d

past_end : {A : Type 0} (d : A) (l m : List A) (k : ℕ) → length m ≡ length l → length l ≤ k → get_or m k d ≡ get_or l k d
past_end d l m k e h = get_or-eq_default m d (rw e h) ∙ sym (get_or-eq_default l d h)

module _ {A : Type 0} {d : A} {l : List A} where
  -- A callee's promise, opened.
  pub paints_of : {m : List A} {a b : ℕ} {f : ℕ → A} → b ≤ length l → m ≡ painted l a b f → Paints d l m a b f
  paints_of {m} {a} {b} {f} fits e = record { len = long; low = below; on = inside; high = above }
    where
      long : length m ≡ length l
      long = ap length e ∙ length_painted l a b f

      at : (k : ℕ) → k < length l → get_or m k d ≡ pick (leb a k) (pick (ltb k b) (f k) (get_or l k d)) (get_or l k d)
      at k h = ap (λ (x : List A). get_or x k d) e ∙ get_d_painted l a b f k d h

      below : (k : ℕ) → k < a → get_or m k d ≡ get_or l k d
      below k h = elim (lt_or_le k (length l)) [ inl t ↦ at k t ∙ rw (lt-leb a k h) | inr t ↦ past_end d l m k long t ]

      inside : (k : ℕ) → a ≤ k → k < b → get_or m k d ≡ f k
      inside k p q = at k (omega arith) ∙ rw (le-leb a k p, lt-ltb k b q)

      cut : (k : ℕ) → b ≤ k → (t : Bool) → pick t (pick (ltb k b) (f k) (get_or l k d)) (get_or l k d) ≡ get_or l k d
      cut k h true = rw (le-ltb k b h)
      cut k h false = refl

      above : (k : ℕ) → b ≤ k → get_or m k d ≡ get_or l k d
      above k h = elim (lt_or_le k (length l)) [ inl t ↦ at k t ∙ cut k h (leb a k) | inr t ↦ past_end d l m k long t ]

  -- The own promise, closed.
  pub paints_painted : {m : List A} {a b : ℕ} {f : ℕ → A} → b ≤ length l → Paints d l m a b f → m ≡ painted l a b f
  paints_painted {m} {a} {b} {f} fits p = ext_get_or d m (painted l a b f) (p.len ∙ sym (length_painted l a b f)) same
    where
      q : Paints d l (painted l a b f) a b f
      q = paints_of fits refl

      same : (k : ℕ) → k < length m → get_or m k d ≡ get_or (painted l a b f) k d
      same k h =
          elim (lt_or_le k a) [
            | inl t ↦ p.low k t ∙ sym (q.low k t)
            | inr t ↦ elim (lt_or_le k b) [ inl u ↦ p.on k t u ∙ sym (q.on k t u) | inr u ↦ p.high k u ∙ sym (q.high k u) ]
          ]

  -- Nothing painted yet.
  pub paint_none : (a : ℕ) (f : ℕ → A) → Paints d l l a a f
  paint_none a f = record { len = refl; low = λ k h. refl; on = λ k p q. absurd (no k p q); high = λ k h. refl }
    where
      no : (k : ℕ) → a ≤ k → k < a → ⊥
      no k p q = omega arith

  -- Another rule that agrees on the stretch.
  pub paint_as : {m : List A} {a b : ℕ} {f : ℕ → A} (g : ℕ → A) → ((k : ℕ) → a ≤ k → k < b → f k ≡ g k) → Paints d l m a b f → Paints d l m a b g
  paint_as g same p = record { len = p.len; low = p.low; on = λ k h t. p.on k h t ∙ same k h t; high = p.high }

  -- One place more, by a store.
  pub paint_more : {m : List A} {a b : ℕ} {f : ℕ → A} (v : A) → a ≤ b → b < length l → v ≡ f b → Paints d l m a b f → Paints d l (set m b v) a (b + 1) f
  paint_more {m} {a} {b} {f} v order fits e p =
      record { len = length-set m b v ∙ p.len; low = below; on = inside; high = above }
    where
      below : (k : ℕ) → k < a → get_or (set m b v) k d ≡ get_or l k d
      below k h = get_or-set_other m b k v d (λ q. omega arith) ∙ p.low k h

      inside : (k : ℕ) → a ≤ k → k < b + 1 → get_or (set m b v) k d ≡ f k
      inside k h t =
          elim (lt_or_le k b) [
            | inl u ↦ get_or-set_other m b k v d (λ q. omega arith) ∙ p.on k h u
            | inr u ↦
                let q : k ≡ b = omega arith in
                rw q (get_or-set_same m b v d (omega (arith, p.len)) ∙ e)
          ]

      above : (k : ℕ) → b + 1 ≤ k → get_or (set m b v) k d ≡ get_or l k d
      above k h = get_or-set_other m b k v d (λ q. omega arith) ∙ p.high k (omega arith)

  -- One place more, that held its value already.
  pub paint_skip : {m : List A} {a b : ℕ} {f : ℕ → A} → a ≤ b → get_or l b d ≡ f b → Paints d l m a b f → Paints d l m a (b + 1) f
  paint_skip {m} {a} {b} {f} order e p = record { len = p.len; low = p.low; on = inside; high = λ k h. p.high k (omega arith) }
    where
      inside : (k : ℕ) → a ≤ k → k < b + 1 → get_or m k d ≡ f k
      inside k h t =
          elim (lt_or_le k b) [
            | inl u ↦ p.on k h u
            | inr u ↦
                let q : k ≡ b = omega arith in
                rw q (p.high b (omega arith) ∙ e)
          ]

  -- Two stretches that meet, by one rule.
  pub paint_next : {m n : List A} {a b c : ℕ} {f : ℕ → A} → a ≤ b → b ≤ c → Paints d l m a b f → Paints d m n b c f → Paints d l n a c f
  paint_next {m} {n} {a} {b} {c} {f} p_order q_order p q =
      record {
        len = q.len ∙ p.len;
        low = λ k h. q.low k (omega arith) ∙ p.low k h;
        on = inside;
        high = λ k h. q.high k h ∙ p.high k (omega arith);
      }
    where
      inside : (k : ℕ) → a ≤ k → k < c → get_or n k d ≡ f k
      inside k h t = elim (lt_or_le k b) [ inl u ↦ q.low k u ∙ p.on k h u | inr u ↦ q.on k u t ]

  -- A stretch painted over inside a painted one; the outer rule holds around it.
  pub paint_within : {m n : List A} {a b i j : ℕ} {f h : ℕ → A} (r : ℕ → A) → a ≤ i → j ≤ b
      → ((k : ℕ) → a ≤ k → k < i → f k ≡ r k) → ((k : ℕ) → i ≤ k → k < j → h k ≡ r k) → ((k : ℕ) → j ≤ k → k < b → f k ≡ r k)
      → Paints d l m a b f → Paints d m n i j h → Paints d l n a b r
  paint_within {m} {n} {a} {b} {i} {j} {f} {h} r p_order q_order before over after p q =
      record {
        len = q.len ∙ p.len;
        low = λ k t. q.low k (omega arith) ∙ p.low k t;
        on = inside;
        high = λ k t. q.high k (omega arith) ∙ p.high k t;
      }
    where
      inside : (k : ℕ) → a ≤ k → k < b → get_or n k d ≡ r k
      inside k t u =
          elim (lt_or_le k i) [
            | inl w ↦ q.low k w ∙ p.on k t u ∙ before k t w
            | inr w ↦
                elim (lt_or_le k j) [
                  | inl z ↦ q.on k w z ∙ over k w z
                  | inr z ↦ q.high k z ∙ p.on k t u ∙ after k z u
                ]
          ]
