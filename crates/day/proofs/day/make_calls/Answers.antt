use Rattle.day.proofs.Running.{going_more}
use Rattle.day.proofs.day.make_calls.Goals as goal

pub loop-preserved : goal.loop-preserved
loop-preserved g c =
    let l = c.loop in
    going_more g.S.Sampler g.K.Sink g.H.Host c.args.table.now l.counter
    c.args.monitor l.monitor _ c.args.rings.now l.rings _ c.args.sampler.now l.sampler _ _ c.args.sink.now l.sink _ _ c.args.host.now l.host _ _ _
    c.in-Some.call _ l.invariant c.in-Some.ensures c.handle.ensures c.make_call-next.ensures c.hear.ensures
