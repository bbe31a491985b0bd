use Rattle.engine.proofs.Histories.{is_lawful}
use Rattle.engine.proofs.laws.Goals as goal

pub returns : goal.returns
returns c = is_lawful c.args._table.now
