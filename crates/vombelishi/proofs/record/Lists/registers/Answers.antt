-- Each flag says whether its byte is not 0.
use Rattle.std.proofs.Common.{arith, ◌∙◌}
use Rattle.std.proofs.lemmas.List.{length-set}
use Rattle.vombelishi.proofs.Records.{flag_more, record_made}
use Rattle.vombelishi.proofs.record.Lists.registers.Goals as goal

pub loop-k-preserved : goal.loop-k-preserved
loop-k-preserved c =
    let l = c.loop-k in
    record {
      long = length-set l.flag-items _ _ ∙ l.invariant.long;
      each = flag_more l.flag-items c.args.self.written.now l.k (omega arith) l.invariant.each;
    }

pub returns : goal.returns
returns c =
    let l = c.loop-k in
    rw (c.of_slots.ensures, c.copy_from_slice.ensures.after)
    (record_made c.args.self.values.now c.args.self.written.now _ l.invariant.long (omega arith) (λ k h. l.invariant.each k (omega arith)))
