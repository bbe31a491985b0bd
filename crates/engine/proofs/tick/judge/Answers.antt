use Rattle.engine.proofs.Known.{judged}
use Rattle.engine.proofs.Histories.{adds_values}
use Rattle.engine.proofs.tick.judge.Goals as goal

pub returns-clause-made : goal.returns-clause-made
returns-clause-made c = judged c.args.table.now c.args.rings.now c.requires c.args.tick c.greatest_lead-top.result c.work_tick.new.rings c.greatest_lead-top.ensures c.work_tick.ensures

pub returns-clause-holds : goal.returns-clause-holds
returns-clause-holds c = adds_values c.args.table.now c.args.tick c.args.rings.now c.work_tick.new.rings (returns-clause-made c)
