use Rattle.std.proofs.Common.{take}
use Rattle.alarms.specs.Offers.{Ran}
use Rattle.alarms.specs.Sinks.{TookAll}
use Rattle.alarms.proofs.offer.offer.Given as goal

abbrev pub invariant-loop-taken : goal.invariant-loop-taken
invariant-loop-taken g l =
    Ran g.K.Sink l.fn.sink (take l.taken l.fn.alarms) l.sink
    × TookAll g.K.Sink.adds (take l.taken l.fn.alarms) (g.K.Sink.view l.fn.sink) (g.K.Sink.view l.sink)
