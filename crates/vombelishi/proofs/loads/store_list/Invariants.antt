-- At each turn what is still to be stored, from the lists as they are, is what the whole list stores in the lists as they came.
use Rattle.vombelishi.proofs.Loading.{Storing, Flagging}
use Rattle.vombelishi.proofs.loads.store_list.Given as goal

abbrev pub invariant-loop-word : goal.invariant-loop-word
invariant-loop-word l = record {
  values : Storing l.words l.word-index l.initial.values l.values;
  flags : Flagging l.words l.word-index l.initial.written l.written;
}
