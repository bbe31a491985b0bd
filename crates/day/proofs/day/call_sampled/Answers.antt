use Rattle.day.proofs.Absent.{not_sampled, absent}
use Rattle.day.proofs.Going.{judge_goes, judge_refused}
use Rattle.day.proofs.day.call_sampled.Goals as goal

pub returns-in-Ok : goal.returns-in-Ok
returns-in-Ok g c =
    let e = c.in-Ok.ensures in
    judge_goes g.S.Sampler g.K.Sink c.args.table.now c.args.call c.args.monitor c.args.rings.now c.args.sampler.now c.args.sink.now
    _ _ _ c.in-Judge.is e.rings e.state e.counts e.day

pub returns-in-Err : goal.returns-in-Err
returns-in-Err g c =
    judge_refused g.S.Sampler g.K.Sink c.args.table.now c.args.call c.args.monitor c.args.rings.now c.args.sampler.now c.args.sink.now
    _ _ _ c.in-Err.ensures.refusal

pub returns-in_default : goal.returns-in_default
returns-in_default g c =
    absent g.S.Sampler g.K.Sink c.args.table.now c.args.call _ c.args.rings.now c.args.sampler.now c.args.sink.now
    (not_sampled c.args.monitor c.args.call c.in_default.not-Judge)
