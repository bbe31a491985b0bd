use Rattle.day.proofs.Absent.{not_judged, absent}
use Rattle.day.proofs.Going.{deliver_goes, deliver_refused, strike_goes, strike_refused, close_goes, close_refused}
use Rattle.day.proofs.day.call_judged.Goals as goal

pub returns-in-Ok : goal.returns-in-Ok
returns-in-Ok g c =
    let e = c.in-Ok.ensures in
    deliver_goes g.S.Sampler g.K.Sink c.args.table.now c.args.call c.args.monitor c.args.rings.now c.args.sampler.now c.args.sink.now
    _ c.in-Ok.counts _ c.in-Deliver.is e.refusal e.sink e.state e.counts e.day

pub returns-in-Err : goal.returns-in-Err
returns-in-Err g c =
    let e = c.in-Err.ensures in
    deliver_refused g.S.Sampler g.K.Sink c.args.table.now c.args.call c.args.monitor c.args.rings.now c.args.sampler.now c.args.sink.now
    _ _ _ c.in-Deliver.is e.refusal e.sink e.kept

pub returns-in-Ok-strike : goal.returns-in-Ok-strike
returns-in-Ok-strike g c =
    let e = c.in-Ok-strike.ensures in
    strike_goes g.S.Sampler g.K.Sink c.args.table.now c.args.call c.args.monitor c.args.rings.now c.args.sampler.now c.args.sink.now
    _ c.in-Ok-strike.counts c.in-Strike.is e.refusal e.state e.counts e.day

pub returns-in-Err-strike : goal.returns-in-Err-strike
returns-in-Err-strike g c =
    let e = c.in-Err-strike.ensures in
    strike_refused g.S.Sampler g.K.Sink c.args.table.now c.args.call c.args.monitor c.args.rings.now c.args.sampler.now c.args.sink.now
    _ _ c.in-Strike.is e.refusal e.kept

pub returns-in-Ok-close : goal.returns-in-Ok-close
returns-in-Ok-close g c =
    let e = c.in-Ok-close.ensures in
    close_goes g.S.Sampler g.K.Sink c.args.table.now c.args.call c.args.monitor c.args.rings.now c.args.sampler.now c.args.sink.now
    _ c.in-Close.is e.refusal e.state

pub returns-in-Err-close : goal.returns-in-Err-close
returns-in-Err-close g c =
    let e = c.in-Err-close.ensures in
    close_refused g.S.Sampler g.K.Sink c.args.table.now c.args.call c.args.monitor c.args.rings.now c.args.sampler.now c.args.sink.now
    _ _ c.in-Close.is e.refusal e.kept

pub returns-in_default : goal.returns-in_default
returns-in_default g c =
    absent g.S.Sampler g.K.Sink c.args.table.now c.args.call _ c.args.rings.now c.args.sampler.now c.args.sink.now
    (not_judged c.args.monitor c.args.call c.in_default.not-Deliver c.in_default.not-Strike c.in_default.not-Close)
