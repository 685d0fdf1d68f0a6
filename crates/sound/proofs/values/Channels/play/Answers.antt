-- The values of all words, a word a turn: what is stored and what the rest will store make the whole.
use Rattle.std.proofs.Common.{◌≡◌, length, sym, refl, ◌∙◌, arith}
use Rattle.sound.specs.inner.Tables.{left_in, right_in}
use Rattle.sound.proofs.Turns.{words_turn, words_done}
use Rattle.sound.proofs.values.Channels.play.Goals as goal

pub loop-k-preserved : goal.loop-k-preserved
loop-k-preserved c =
    let l = c.loop-k in
    let table = c.args.self.now.sixths in (
      omega (arith, l.invariant.0),
      l.invariant.1 ∙ words_turn (left_in table) (right_in table) c.args.words.now l.out _ l.k l.next _ c.loop-k-test.true refl c.play_word.ensures,
    )

pub returns : goal.returns
returns c =
    let l = c.loop-k in
    let table = c.args.self.now.sixths in
    let words = c.args.words.now in
    let e : l.k ≡ length words = omega arith in (
      rw (← e) l.invariant.0,
      sym (l.invariant.1 ∙ words_done (left_in table) (right_in table) words l.out _ l.k l.next c.loop-k-test.false),
    )
