use Rattle.std.proofs.Common.{sym, subst}
use Rattle.day.specs.declared.states.Monitor.{Monitor}
use Rattle.day.specs.Calls.{MakesCall}
use Rattle.day.proofs.day.make_call.Goals as goal

pub returns-in-Judged : goal.returns-in-Judged
returns-in-Judged g c =
    let called = c.call_judged in
    subst (λ (x : Monitor). MakesCall g.S.Sampler g.K.Sink c.args.table.now c.args.call called.result.1 x c.args.rings.now c.args.sampler.now c.args.sink.now called.result.0 called.new.rings called.new.sampler called.new.sink) (sym c.in-Judged.is) called.ensures
