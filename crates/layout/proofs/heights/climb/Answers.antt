-- The heights so far are low.
use Rattle.std.proofs.Common.{ℕ, List, get_or, take, ap, arith}
use Rattle.std.proofs.ByRecursion.{All-take}
use Rattle.walks.specs.Edges.{Bounded}
use Rattle.walks.proofs.Through.{graph_bounded}
use Rattle.layout.proofs.Climbs.{folded_low}
use Rattle.layout.proofs.heights.climb.Goals as goal

pub raise-requires-clause-low : goal.raise-requires-clause-low
raise-requires-clause-low c = (
  λ s. omega (arith, c.requires s),
  λ s. omega (
    arith,
    folded_low (take c.loop-edge.edge-index c.args.graph.now.edges.now) (All-take Bounded c.loop-edge.edge-index c.args.graph.now.edges.now (graph_bounded c.args.graph.now)) 900000 c.args.from.now c.requires s,
    ap (λ (x : List ℕ). get_or x s 0) c.loop-edge.invariant,
  ),
)
