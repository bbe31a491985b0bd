use Rattle.std.proofs.Common.{◌-◌, Some, arith}
use Rattle.search.specs.Arrivals.{Missed, First}
use Rattle.search.proofs.Searches.{at_start, kept_same, kept_open, kept_first, kept_all}
use Rattle.search.proofs.closed.least_closed.Goals.{in-Some, in_default}
use Rattle.search.proofs.closed.least_closed.Goals as goal

pub loop-node-preserved : goal.loop-node-preserved
loop-node-preserved c = elim c.match-first_arrival.branch [
  | in-Some w ↦
      kept_same c.args.graph.now.edges.now c.args.graph.now.channels c.args.graph.now.streams _ (Some w.in-Some.arrival) _ (w.in-Some.arrival.length - 1) _ w.best-is w.limit-is
      (kept_first c.args.graph.now.edges.now c.args.graph.now.channels c.args.graph.now.streams c.loop-node.node c.loop-node.best c.loop-node.limit w.in-Some.arrival
      (omega arith) (omega arith) c.loop-node.invariant
      (at_start (λ s t m. First c.args.graph.now.edges.now s t m w.in-Some.arrival) _ _ _ _ _ _ c.at.ensures c.node.ensures c.min-most.ensures
      w.in-Some.ensures))
  | in_default w ↦
      kept_same c.args.graph.now.edges.now c.args.graph.now.channels c.args.graph.now.streams _ c.loop-node.best _ c.loop-node.limit _ w.best-is w.limit-is
      (kept_open c.args.graph.now.edges.now c.args.graph.now.channels c.args.graph.now.streams c.loop-node.node c.loop-node.best c.loop-node.limit c.loop-node.invariant
      (at_start (Missed c.args.graph.now.edges.now) _ _ _ _ _ _ c.at.ensures c.node.ensures c.min-most.ensures
      w.in_default.ensures))
]

pub returns : goal.returns
returns c = kept_all c.args.graph.now.edges.now c.args.graph.now.channels c.args.graph.now.streams c.loop-node.node c.loop-node.best c.loop-node.limit c.loop-node-test.false c.loop-node.invariant
