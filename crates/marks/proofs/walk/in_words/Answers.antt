-- Four words more are theirs in the four sums, and then a word more is its own in the first of them.
use Rattle.std.proofs.Common.{arith, ◌≡◌, ◌+◌, ◌*◌, ◌/◌, ◌∙◌, ap, length, get_or, get_or-drop}
use Rattle.marks.specs.Count.{total}
use Rattle.marks.specs.inner.Bright.{word_bright, word_bright_at}
use Rattle.marks.proofs.Spanned.{fours_more}
use Rattle.marks.proofs.Totals.{total_more}
use Rattle.marks.proofs.walk.in_words.Goals as goal

pub loop-w-preserved : goal.loop-w-preserved
loop-w-preserved c =
    fours_more c.args.bytes.now c.args.words.now _ c.as_chunks.result.0.now c.loop-w.a c.loop-w.b c.loop-w.c c.loop-w.d c.loop-w.w-index
    c.as_chunks.ensures.front (omega arith) c.loop-w.invariant c.in_word-a.ensures.0 c.in_word-b.ensures.0 c.in_word-c.ensures.0
    c.in_word-d.ensures.0

pub loop-word-preserved : goal.loop-word-preserved
loop-word-preserved c =
    let n = length c.args.words.now / 4 in
    let k = c.loop-word.word-index in
    let f = word_bright_at c.args.bytes.now c.args.words.now in
    let word : get_or c.as_chunks.result.1.now k 0 ≡ get_or c.args.words.now (4 * n + k) 0 =
    ap (λ ws. get_or ws k 0) c.as_chunks.ensures.back ∙ get_or-drop (n * 4) c.args.words.now k 0
    ∙ ap (λ i. get_or c.args.words.now i 0) (omega arith) in
    let here : c.in_word-a-in-loop-word.result ≡ f (4 * n + k) =
    c.in_word-a-in-loop-word.ensures.0 ∙ ap (word_bright c.args.bytes.now) word in
    let next : 4 * n + (k + 1) ≡ 4 * n + k + 1 = omega arith in
    omega (arith, c.loop-word.invariant, here, total_more f (4 * n + k), ap (total f) next)
