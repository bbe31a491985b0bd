use Rattle.search.proofs.Layers.{low_alone}
use Rattle.search.proofs.row.Start.at.Goals as goal

pub invariant_of-result : goal.invariant_of-result
invariant_of-result c = record { low = low_alone c.args.node }
