-- Each tick ends in the call that the bench names, made on the queue.
use Rattle.live.proofs.Ran.{ran_next}
use Rattle.live.proofs.run.run.Goals as goal

pub loop-tick-preserved : goal.loop-tick-preserved
loop-tick-preserved c =
    let next = c.next.ensures in
    ran_next c.args.words.now _ _ c.loop-tick.tick c.loop-tick.invariant _ _ _ next.bench next.call next.table _ _ c.on-reply.ensures
