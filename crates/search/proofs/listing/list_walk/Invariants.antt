use Rattle.search.proofs.Backwards.{Going}
use Rattle.search.proofs.listing.list_walk.Given as goal

abbrev pub invariant-loop-k : goal.invariant-loop-k
invariant-loop-k l = Going l.graph.edges.now l.rows l.fn.arrival.length l.fn.arrival.node l.initial.left l.initial.sheet l.sheet l.k l.node l.left
