-- Tables filled entry by entry.
use Prim.Native.Nat.{ℕ, ◌+◌, ◌/◌, ◌%◌, ◌<◌, ◌≤◌}
use mathlib.Core.Bool.{Bool, true, false}
use mathlib.Core.List.{List}
use mathlib.Core.Path.{◌≡◌, refl, sym, ◌∙◌, ap}
use native.Mathlib.Omega.{arith}
use borrow.Author.Count.{below_more}
use borrow.Author.Tests.{le-leb, lt-leb, ltb-true, ltb-false}
use lib.Dec.{leb, ltb}
use lib.ListN.{length, get_or, set, length-set, get_or-eq_default}
use lib.Seq.{get_or-set_same, get_or-set_other}
use Rattle.registers.specs.declared.record.Registers.{Registers}
use Rattle.colours.specs.Apart.{apart_of}
use Rattle.colours.specs.Colour.{shown_of, colour_of}
use Rattle.colours.specs.Grey.{grey_of}
use Rattle.colours.specs.declared.apart.Apart.{Apart}
use Rattle.colours.proofs.Brighter.{grey_of_guns}
use Rattle.marks.specs.Count.{bit}
use Rattle.marks.specs.inner.Bright.{Tabled, AtMost, lit, bright, word_bright}

-- What holds of each of the first k entries, and of a new entry k.
pub each_more : (table : List ℕ) (k v : ℕ) (P : ℕ → ℕ → Type 0) → k < length table → ((i : ℕ) → i < k → P i (get_or table i 0)) → P k v
    → (i : ℕ) → i < k + 1 → P i (get_or (set table k v) i 0)
each_more table k v P l all here =
    below_more (λ i. P i (get_or (set table k v) i 0)) k
    (λ i m. rw (get_or-set_other table k i v 0 (λ q. omega arith)) (all i m))
    (rw (get_or-set_same table k v 0 l) here)

pub tabled_more : {table : List ℕ} {k v : ℕ} {f : ℕ → ℕ} → Tabled table k f → k < 256 → v ≡ f k → Tabled (set table k v) (k + 1) f
tabled_more {table} {k} {v} {f} t l e =
    record {
      len = length-set table k v ∙ t.len;
      on = each_more table k v (λ i w. w ≡ f i) (omega (arith, t.len)) t.on e;
    }

-- The grey of what a lookup answers.
pub apart_grey : (held r : ℕ) (a : Apart) → a ≡ apart_of held → r ≡ grey_of a.colour → r ≡ grey_of held
apart_grey held r a apart made = made ∙ ap (λ (b : Apart). grey_of b.colour) apart ∙ sym (grey_of_guns held)

module _ (entry d threshold p r : ℕ) (a : Apart) (e : a ≡ apart_of (shown_of entry d p)) (f : r ≡ grey_of a.colour) where
  as_grey : leb threshold r ≡ leb threshold (grey_of (shown_of entry d p))
  as_grey = ap (leb threshold) (apart_grey (shown_of entry d p) r a e f)

  pub lit_yes : threshold ≤ r → 1 ≡ lit entry d threshold p
  lit_yes l = ap bit (sym (le-leb threshold r l) ∙ as_grey)

  pub lit_no : r < threshold → 0 ≡ lit entry d threshold p
  lit_no l = ap bit (sym (lt-leb threshold r l) ∙ as_grey)

-- A whole table's bound is its rule's.
pub tabled_most : {table : List ℕ} {f : ℕ → ℕ} {m : ℕ} → Tabled table 256 f → ((k : ℕ) → f k ≤ m) → AtMost table m
tabled_most {table} {f} {m} t h = record { most = λ k. by k (ltb k 256) refl }
  where
    by : (k : ℕ) (low : Bool) → ltb k 256 ≡ low → get_or table k 0 ≤ m
    by k true e = rw (t.on k (ltb-true k 256 e)) (h k)
    by k false e = rw (get_or-eq_default table 0 {n = k} (omega (arith, t.len, ltb-false k 256 e))) (omega arith)

pub bit_most : (test : Bool) → bit test ≤ 1
bit_most true = omega arith
bit_most false = omega arith

pub bright_most : (g : Registers) (d threshold : ℕ) {pixels : List ℕ} → Tabled pixels 256 (bright g d threshold) → AtMost pixels 1
bright_most g d threshold t = tabled_most t (λ p. bit_most (leb threshold (grey_of (colour_of g d p))))

pub word_most : (bytes : List ℕ) (w : ℕ) → AtMost bytes 255 → word_bright bytes w ≤ 1020
word_most bytes w m =
    omega (arith, m.most (w % 256), m.most (w / 0x100 % 256), m.most (w / 0x1_0000 % 256), m.most (w / 0x100_0000 % 256))
