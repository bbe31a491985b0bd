use Rattle.std.proofs.Common.{rules}
use Rattle.engine.proofs.Histories.{holds_rows}
use Rattle.engine.proofs.tick.run.Goals as goal

pub returns-clause-made : goal.returns-clause-made
returns-clause-made c = search rules

pub returns-clause-holds : goal.returns-clause-holds
returns-clause-holds c = holds_rows c.args.table.now c.args.rows.now c.args.rings.now c.loop-tick.rings (returns-clause-made c)
