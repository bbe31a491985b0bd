use Rattle.day.proofs.Absent.{not_ready, absent}
use Rattle.day.proofs.Going.{sample_goes, sample_refused, show_goes, show_refused}
use Rattle.day.proofs.day.call_ready.Goals as goal

pub returns-in-Ok : goal.returns-in-Ok
returns-in-Ok g c =
    let e = c.in-Ok.ensures in
    sample_goes g.S.Sampler g.K.Sink c.args.table.now c.args.call c.args.monitor c.args.rings.now c.args.sampler.now c.args.sink.now
    _ _ _ c.in-Sample.is e.refusal e.sampler e.state e.rings e.day

pub returns-in-Err : goal.returns-in-Err
returns-in-Err g c =
    let e = c.in-Err.ensures in
    sample_refused g.S.Sampler g.K.Sink c.args.table.now c.args.call c.args.monitor c.args.rings.now c.args.sampler.now c.args.sink.now
    _ _ _ _ c.in-Sample.is e.refusal e.sampler e.kept

pub returns-in-Ok-show : goal.returns-in-Ok-show
returns-in-Ok-show g c =
    let e = c.in-Ok-show.ensures in
    show_goes g.S.Sampler g.K.Sink c.args.table.now c.args.call c.args.monitor c.args.rings.now c.args.sampler.now c.args.sink.now
    c.in-Show.stream c.in-Ok-show.shown c.in-Show.is e.refusal e.day

pub returns-in-Err-show : goal.returns-in-Err-show
returns-in-Err-show g c =
    let e = c.in-Err-show.ensures in
    show_refused g.S.Sampler g.K.Sink c.args.table.now c.args.call c.args.monitor c.args.rings.now c.args.sampler.now c.args.sink.now
    c.in-Show.stream _ c.in-Show.is e.refusal

pub returns-in_default : goal.returns-in_default
returns-in_default g c =
    absent g.S.Sampler g.K.Sink c.args.table.now c.args.call _ c.args.rings.now c.args.sampler.now c.args.sink.now
    (not_ready c.args.monitor c.args.call c.in_default.not-Sample c.in_default.not-Show)
