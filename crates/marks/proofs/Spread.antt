-- A raster by whole words: where the cursor covers none of their positions, words show what their pixels do; so the words before the
-- cursor's part, the positions of that part, and the words behind it make up the raster. Once for any table and its table of bytes.
use Prim.Native.Nat.{ℕ, ◌+◌, ◌*◌, ◌-◌, ◌/◌, ◌<◌, ◌≤◌}
use mathlib.Core.Bool.{false}
use mathlib.Core.List.{List}
use mathlib.Core.Path.{◌≡◌, refl, sym, ◌∙◌, ap}
use Rattle.std.proofs.Common.{length-take, length-drop, get_or-take, get_or-drop}
use native.Mathlib.Nat.{add_assoc, add-mul, mul_assoc, zero-mul, add-sub_cancel_left, sub-zero}
use native.Mathlib.Omega.{arith}
use lib.Dec.{ltb}
use lib.ListN.{length, get_or, take, drop}
use Rattle.buffers.proofs.Split.{is_false}
use Rattle.registers.specs.Setting.{raster_words}
use Rattle.registers.specs.declared.setting.Setting.{Setting}
use Rattle.registers.specs.inner.Accepted.{Depth, Accepted}
use Rattle.registers.proofs.Words.{raster_most, video_most}
use Rattle.cells.specs.Pixel.{first_word}
use Rattle.cells.specs.Cell.{covered}
use Rattle.cells.specs.inner.Known.{Picture}
use Rattle.cells.proofs.RasterWords.{four_bytes, whole_pixels, raster_room}
use Rattle.marks.specs.Count.{total}
use Rattle.std.specs.declared.ops.Range.{Range}
use Rattle.marks.specs.inner.Bright.{Tabled, byte_bright, pixel_bright, word_bright, word_bright_at}
use Rattle.marks.specs.inner.Seen.{only, bytes_only, words_seen, Flagged}
use Rattle.marks.specs.inner.Shown.{shown_at, shown_from, shown_total, seen_from, CursorPart}
use Rattle.marks.proofs.Bytes.{words_total}
use Rattle.marks.proofs.Flags.{flagged_as, flagged_join}
use Rattle.marks.proofs.Parts.{part_inside}
use Rattle.marks.proofs.Showing.{shown_some, shown_join}
use Rattle.marks.proofs.Spanned.{bytes_only_holds}
use Rattle.marks.proofs.Totals.{total_as, total_split}

-- n words from one on, pixel by pixel.
abbrev pub word_from : List ℕ → List ℕ → ℕ → ℕ → ℕ
word_from bytes ws from k = word_bright_at bytes ws (from + k)

words_from : (pixels bytes : List ℕ) (d : ℕ) → Depth d → Tabled bytes 256 (byte_bright pixels d) → (ws : List ℕ) (from n : ℕ)
    → total (word_from bytes ws from) n ≡ total (λ j. pixel_bright pixels ws d (from * (32 / d) + j)) (n * (32 / d))
words_from pixels bytes d h t ws from n =
    let f = pixel_bright pixels ws d in
    let up_to : (m : ℕ) → total f (m * (32 / d)) ≡ total (word_bright_at bytes ws) m =
    λ m. ap (λ per. total f (m * per)) (four_bytes h) ∙ words_total pixels bytes d h t ws m in
    let both : total f ((from + n) * (32 / d)) ≡ total f (from * (32 / d) + n * (32 / d)) = ap (total f) (add-mul from n (32 / d)) in
    omega (
      arith,
      up_to from,
      up_to (from + n),
      both,
      total_split f (from * (32 / d)) (n * (32 / d)),
      total_split (word_bright_at bytes ws) from n,
    )

-- The n words from one on, as a list of their own.
pub record Piece (ws piece : List ℕ) (from n : ℕ) : Type 0 where
  pub len : length piece ≡ n
  pub on : (k : ℕ) → k < n → get_or piece k 0 ≡ get_or ws (from + k) 0

piece_total : {ws piece : List ℕ} {from n : ℕ} → Piece ws piece from n → (bytes : List ℕ)
    → total (word_bright_at bytes piece) (length piece) ≡ total (word_from bytes ws from) n
piece_total {ws} {piece} {from} {n} p bytes =
    ap (total (word_bright_at bytes piece)) p.len
    ∙ total_as (word_bright_at bytes piece) (word_from bytes ws from) n (λ k l. ap (word_bright bytes) (p.on k l))

-- The words of a row of n from one on, up to one of them, and from it on.
module _ (ws : List ℕ) (first end n m : ℕ) (e : end ≡ first + n) (l : end ≤ length ws) (h : m ≤ n) where
  row_long : length (take (end - first) (drop first ws)) ≡ n
  row_long = rw (length-take, length-drop) (omega arith)

  row_at : (k : ℕ) → k < n → get_or (take (end - first) (drop first ws)) k 0 ≡ get_or ws (first + k) 0
  row_at k i = get_or-take (end - first) (drop first ws) k 0 (omega arith) ∙ get_or-drop first ws k 0

  pub row_before : Piece ws (take m (take (end - first) (drop first ws))) first m
  row_before =
      record {
        len = length-take m (take (end - first) (drop first ws)) ∙ omega (arith, row_long);
        on = λ k i. get_or-take m (take (end - first) (drop first ws)) k 0 i ∙ row_at k (omega arith);
      }

  pub row_behind : Piece ws
      (take (length (take (end - first) (drop first ws)) - m) (drop m (take (end - first) (drop first ws)))) (first + m) (n - m)
  row_behind =
      let row = take (end - first) (drop first ws) in
      record {
        len = length-take (length row - m) (drop m row) ∙ omega (arith, row_long, length-drop m row);
        on = λ k i.
            get_or-take (length row - m) (drop m row) k 0 (omega (arith, row_long)) ∙ get_or-drop m row k 0 ∙ row_at (m + k) (omega arith)
            ∙ ap (λ i. get_or ws i 0) (sym (add_assoc first m k));
      }

-- A displayed raster's words lie in the list, and are few.
pub raster_inside : (s : Setting) {video cursor : List ℕ} {words : ℕ} (r : ℕ) → Picture s video cursor → r < s.vde.0 - s.vds.0
    → words ≡ raster_words s → (r * words + words ≤ length video) × (length video ≤ 1024 * 512) × (words ≤ 512)
unfolding first_word
raster_inside s r p l e =
    let a = p.accepted in
    let room = raster_room s a (s.vds.0 + r) (omega arith) (omega arith) in
    let here : (s.vds.0 + r - s.vds.0) * raster_words s ≡ r * raster_words s = ap (λ n. n * raster_words s) (add-sub_cancel_left s.vds.0 r) in
    let first = ap (λ (n : ℕ). r * n) e in
    (omega (arith, p.video_words), omega (arith, p.video_words, video_most s a), omega (arith, raster_most s a))

-- Of a displayed raster's words, those before the part that the cursor may cover, and those behind it.
pub row_parts : (s : Setting) {video cursor : List ℕ} {words y : ℕ} (r : ℕ) (part : Range ℕ) → Picture s video cursor → r < s.vde.0 - s.vds.0
    → words ≡ raster_words s → CursorPart s y part
    → let row = take (r * words + words - r * words) (drop (r * words) video) in
    Piece video (take part.start row) (r * words) part.start
    × Piece video (take (length row - part.end) (drop part.end row)) (r * words + part.end) (words - part.end)
row_parts s {video} {cursor} {words} r part p l e c =
    let fits = raster_inside s r p l e in (
      row_before video (r * words) (r * words + words) words part.start refl fits.0 (omega (arith, c.order, c.inside)),
      row_behind video (r * words) (r * words + words) words part.end refl fits.0 (omega (arith, c.inside)),
    )

-- Displayed raster r.
module _ (s : Setting) (a : Accepted s) (video cursor : List ℕ) (r : ℕ) where
  position_shown : (pixels : List ℕ) (p : ℕ) → covered s cursor (s.ds.0 + p) (s.vds.0 + r) ≡ false
      → pixel_bright pixels video s.depth (r * (s.de.0 - s.ds.0) + p) ≡ shown_at s video cursor pixels (s.vds.0 + r) p
  position_shown pixels p off =
      shown_some s video cursor (s.vds.0 + r) p refl pixels off (rw (add-sub_cancel_left s.vds.0 r, add-sub_cancel_left s.ds.0 p))

  module _ (words : ℕ) (x : words ≡ raster_words s) where
    -- Word k of the raster up to word m, which hold positions p up to q.
    words_shown : (pixels bytes : List ℕ) → Tabled bytes 256 (byte_bright pixels s.depth) → {from p q : ℕ} (k m : ℕ) → k ≤ m
        → from ≡ r * words + k → p ≡ k * (32 / s.depth) → q ≡ m * (32 / s.depth)
        → ((i : ℕ) → p ≤ i → i < q → covered s cursor (s.ds.0 + i) (s.vds.0 + r) ≡ false)
        → total (word_from bytes video from) (m - k) ≡ shown_total s video cursor pixels (s.vds.0 + r) p (q - p)
    unfolding shown_total
    words_shown pixels bytes t {from} {p} {q} k m l f i j clear =
        let per = 32 / s.depth in
        let w = s.de.0 - s.ds.0 in
        let y = s.vds.0 + r in
        let whole : words * per ≡ w = ap (λ n. n * per) x ∙ whole_pixels s a in
        let start : from * per ≡ r * w + p =
        ap (λ n. n * per) f ∙ add-mul (r * words) k per ∙ omega (arith, mul_assoc r words per, ap (λ n. r * n) whole) in
        let all : (k + (m - k)) * per ≡ m * per = ap (λ n. n * per) (omega arith) in
        let long : (m - k) * per ≡ q - p = omega (arith, all, add-mul k (m - k) per) in
        words_from pixels bytes s.depth a.depth t video from (m - k)
        ∙ ap (total (λ n. pixel_bright pixels video s.depth (from * per + n))) long
        ∙ total_as (λ n. pixel_bright pixels video s.depth (from * per + n)) (shown_from s video cursor pixels y p) (q - p)
        (λ n n_less. ap (pixel_bright pixels video s.depth) (omega arith) ∙ position_shown pixels (p + n) (clear (p + n) (omega arith) (omega arith)))

    module _ (part : Range ℕ) (c : CursorPart s (s.vds.0 + r) part) where
      clear : (i : ℕ) → i < s.de.0 - s.ds.0 → (part.start * (32 / s.depth) ≤ i → i < part.end * (32 / s.depth) → ⊥)
          → covered s cursor (s.ds.0 + i) (s.vds.0 + r) ≡ false
      clear i l out =
          is_false (covered s cursor (s.ds.0 + i) (s.vds.0 + r)) (λ t. let h = c.only cursor i l t in out h.0 h.1)

      module _ {before behind : List ℕ} (b : Piece video before (r * words) part.start) (e : Piece video behind (r * words + part.end) (words - part.end)) where
        pub parts_shown : {left middle right : ℕ} (pixels bytes : List ℕ) → Tabled bytes 256 (byte_bright pixels s.depth)
            → left ≡ total (word_bright_at bytes before) (length before)
            → middle ≡ shown_total s video cursor pixels (s.vds.0 + r) (part.start * (32 / s.depth))
            (part.end * (32 / s.depth) - part.start * (32 / s.depth))
            → right ≡ total (word_bright_at bytes behind) (length behind)
            → left + middle + right ≡ shown_total s video cursor pixels (s.vds.0 + r) 0 (s.de.0 - s.ds.0)
        parts_shown pixels bytes t f h g =
            let per = 32 / s.depth in
            let y = s.vds.0 + r in
            let w = s.de.0 - s.ds.0 in
            let in_display_holds = part_inside s a c in
            let low : total (word_from bytes video (r * words)) part.start ≡ shown_total s video cursor pixels y 0 (part.start * per - 0) =
            ap (total (word_from bytes video (r * words))) (sym (sub-zero part.start))
            ∙ words_shown pixels bytes t 0 part.start (omega arith) (omega arith) (omega (arith, zero-mul per)) refl
            (λ i l m. clear i (omega arith) (λ k n. omega arith)) in
            let high : total (word_from bytes video (r * words + part.end)) (words - part.end)
            ≡ shown_total s video cursor pixels y (part.end * per) (w - part.end * per) =
            words_shown pixels bytes t part.end words (omega (arith, c.inside)) refl refl (sym (ap (λ n. n * per) x ∙ whole_pixels s a))
            (λ i l m. clear i m (λ k n. omega arith)) in
            omega (
              arith,
              f,
              h,
              g,
              piece_total b bytes,
              piece_total e bytes,
              low,
              high,
              shown_join s video cursor y 0 pixels (part.start * per) (part.end * per) (omega arith) in_display_holds.0,
              shown_join s video cursor y 0 pixels (part.end * per) w (omega arith) in_display_holds.1,
              ap (shown_total s video cursor pixels y 0) (sub-zero w),
            )

        pub parts_seen : {old left middle right : List ℕ} → Flagged old left (words_seen s.depth before (length before))
            → Flagged left middle
            (seen_from s video cursor (s.vds.0 + r) (part.start * (32 / s.depth)) (part.end * (32 / s.depth) - part.start * (32 / s.depth)))
            → Flagged middle right (words_seen s.depth behind (length behind))
            → Flagged old right (seen_from s video cursor (s.vds.0 + r) 0 (s.de.0 - s.ds.0))
        unfolding words_seen
        parts_seen f h i =
            flagged_as (λ q l. ap (ltb 0) (parts_shown (only q) (bytes_only s.depth q) (bytes_only_holds s.depth q) refl refl refl))
            (flagged_join (flagged_join f h) i)
