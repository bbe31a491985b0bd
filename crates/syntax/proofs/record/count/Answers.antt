use Rattle.std.proofs.Common.{rules}
use Rattle.syntax.proofs.Counting.{counted}
use Rattle.syntax.proofs.record.count.Goals as goal

pub returns : goal.returns
returns c = search (rules, counted c.args.kind c.args.records.now)
