use Rattle.day.proofs.Running.{Going}
use Rattle.day.proofs.day.make_calls.Given as goal

abbrev pub invariant-loop : goal.invariant-loop
invariant-loop g l =
    Going g.S.Sampler g.K.Sink g.H.Host l.table l.counter
    l.fn.monitor l.fn.rings l.fn.sampler l.fn.sink l.fn.host
    l.monitor l.rings l.sampler l.sink l.host
