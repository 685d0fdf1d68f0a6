-- At each turn what is still to be stored, from the lists as they are, is what the whole list stores in the lists as they came.
use Rattle.std.proofs.Common.{arith, sym, ◌∙◌}
use Rattle.vombelishi.proofs.Loading.{values_turn, flags_turn, values_all, flags_all}
use Rattle.vombelishi.proofs.loads.store_list.Goals as goal

pub loop-word-preserved : goal.loop-word-preserved
loop-word-preserved c =
    let l = c.loop-word in
    let put = c.store_word.ensures in
    record {
      values = values_turn _ _ _ l.values _ c.loop-word-test.true l.invariant.values put.0;
      flags = flags_turn _ _ _ l.written _ c.loop-word-test.true l.invariant.flags put.1;
    }

pub returns : goal.returns
returns c =
    let l = c.loop-word in (
      sym (l.invariant.values.1 ∙ values_all _ l.word-index _ (omega arith)),
      sym (l.invariant.flags.1 ∙ flags_all _ l.word-index _ (omega arith)),
    )
