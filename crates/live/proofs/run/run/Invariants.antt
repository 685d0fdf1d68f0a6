-- After some ticks the queue, the last answer, the bench and what was told are those of so many ticks of the run.
use Rattle.std.proofs.Common.{◌≡◌}
use Rattle.live.specs.Run.{Live, ran, start}
use Rattle.live.proofs.run.run.Given as goal

abbrev pub invariant-loop-tick : goal.invariant-loop-tick
invariant-loop-tick l =
    ◌≡◌ {A = Live} (record { queue = l.q; reply = l.reply; bench = l.b; told = l.told })
    (ran l.words (start l.initial.q l.initial.b l.initial.told) l.tick)
