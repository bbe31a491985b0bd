use Rattle.std.proofs.Common.{rules, arith}
use Rattle.syntax.specs.declared.record.Kind.TheVariants.{Channel, Stream}
use Rattle.typing.proofs.Scoping.{scope_more, counts_in}
use Rattle.typing.proofs.scope.Scope.new.Goals as goal

pub returns-in_err-add : goal.returns-in_err-add
returns-in_err-add c =
    let channels = counts_in Channel c.args.records.now c.loop-r.r-index c.r-item.result c.loop-r-test.true c.r-item.is in
    let streams = counts_in Stream c.args.records.now c.loop-r.r-index c.r-item.result c.loop-r-test.true c.r-item.is in
    search (rules, arith)

pub loop-r-preserved : goal.loop-r-preserved
loop-r-preserved c = scope_more c.loop-r.scope c.add.new.self c.args.records.now c.loop-r.r-index c.r-item.result c.loop-r-test.true c.r-item.is c.loop-r.invariant c.in_ok-add.ensures
