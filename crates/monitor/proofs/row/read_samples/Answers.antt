use Rattle.std.proofs.Common.{rules, ap, sym, subst, length, arith, ◌∙◌, ◌≤◌}
use Rattle.monitor.proofs.Reading.{channel_more, channel_stops, none_stops, typed_row, row_filled}
use Rattle.monitor.proofs.row.read_samples.Goals as goal

pub loop-channel-preserved : goal.loop-channel-preserved
loop-channel-preserved g c =
    let m = g.S.Sampler.meaning c.args.sampler.now in
    let e = c.in_ok-row.ensures in
    channel_more c.args.table.now m.present m.dark c.loop-channel.channel c.in_ok-row.field-0 _ c.loop-channel.row c.channels-declared-items.result.now c.channels-declared-items.ensures c.loop-channel-test.true c.loop-channel.invariant e.answer e.value.0 e.value.1

pub returns-in_err-row-clause-answer : goal.returns-in_err-row-clause-answer
returns-in_err-row-clause-answer g c =
    let m = g.S.Sampler.meaning c.args.sampler.now in
    let stop = channel_stops c.args.table.now m.present m.dark c.loop-channel.channel c.in_err-row.field-0.0.fault _ c.loop-channel.row c.channels-declared-items.result.now c.channels-declared-items.ensures c.loop-channel-test.true c.loop-channel.invariant c.in_err-row.ensures.answer in
    search rules

pub returns-clause-answer : goal.returns-clause-answer
returns-clause-answer g c =
    let m = g.S.Sampler.meaning c.args.sampler.now in
    none_stops c.args.table.now m.present m.dark c.loop-channel.channel c.loop-channel.row (subst (λ xs. length xs ≤ c.loop-channel.channel) c.channels-declared-items.ensures c.loop-channel-test.false) c.loop-channel.invariant

pub returns-clause-typed : goal.returns-clause-typed
returns-clause-typed g c =
    let m = g.S.Sampler.meaning c.args.sampler.now in
    typed_row c.args.table.now m.present m.dark c.loop-channel.channel c.loop-channel.row (subst (λ xs. length xs ≤ c.loop-channel.channel) c.channels-declared-items.ensures c.loop-channel-test.false) c.loop-channel.invariant

pub returns-clause-row : goal.returns-clause-row
returns-clause-row g c =
    let m = g.S.Sampler.meaning c.args.sampler.now in
    row_filled c.args.table.now m.present m.dark c.loop-channel.channel c.loop-channel.row (subst (λ xs. length xs ≤ c.loop-channel.channel) c.channels-declared-items.ensures c.loop-channel-test.false) c.loop-channel.invariant
