use Rattle.std.proofs.Common.{ap, ◌∙◌, arith}
use Rattle.std.specs.Result.{result_ok}
use Rattle.sampling.specs.Rows.{Readings, readings}
use Rattle.sampling.specs.Short.{past}
use Rattle.sampling.proofs.Answering.{ok_of}
use Rattle.sampling.proofs.Filling.{filled_more, filled_all}
use Rattle.sampling.proofs.watch.read_row.Goals as goal

pub loop-channel-init : goal.loop-channel-init
loop-channel-init g c = ((λ k h. absurd (omega (arith, h))), (λ k h. ap (λ (f : Readings). f k) c.empty-row.ensures))

pub loop-channel-preserved : goal.loop-channel-preserved
loop-channel-preserved g c =
    let want = (g.S.Sampler.meaning c.args.sampler.now).present in
    filled_more (readings c.loop-channel.row) want c.loop-channel.channel c.ok.result c.loop-channel-test.true c.put.ensures
    (c.ok.ensures.value ∙ ap result_ok c.read.ensures ∙ ok_of (want c.loop-channel.channel) _) c.loop-channel.invariant

pub returns : goal.returns
returns g c =
    filled_all (readings c.loop-channel.row) ((g.S.Sampler.meaning c.args.sampler.now).present) c.loop-channel.channel c.loop-channel-test.false
    (g.met.S.Sampler.short c.args.sampler.now) (past c.loop-channel.row) c.loop-channel.invariant
