use Rattle.search.proofs.Searches.{Kept}
use Rattle.search.proofs.closed.least_closed.Given as goal

abbrev pub invariant-loop-node : goal.invariant-loop-node
invariant-loop-node l = Kept l.graph.edges.now l.graph.channels l.graph.streams l.node l.best l.limit
