-- The base is low, and so are the rows so far.
use Rattle.std.proofs.Common.{take, arith}
use Rattle.std.proofs.ByRecursion.{All-take}
use Rattle.walks.specs.Edges.{Bounded}
use Rattle.walks.proofs.Through.{graph_bounded}
use Rattle.layout.proofs.Slopes.{base_at_most, rows_low}
use Rattle.layout.proofs.heights.slopes.Goals as goal

pub raise-requires-clause-low : goal.raise-requires-clause-low
raise-requires-clause-low c =
    let g = c.args.graph.now in
    let n = c.loop-edge.edge-index in
    (λ s. omega (arith, base_at_most 64 s), rows_low (take n g.edges.now) (All-take Bounded n g.edges.now (graph_bounded g)) c.loop-edge.rows c.loop-edge.invariant _)
