use Rattle.std.proofs.Common.{◌≡◌, ◌-◌, ◌<◌}
use Rattle.layout.specs.Climbs.{heights}
use Rattle.layout.proofs.heights.rest_by_edges.Given as goal

abbrev pub invariant-loop : goal.invariant-loop
invariant-loop l =
    (l.row ≡ heights l.graph.edges.now l.counter)
    × (0 < l.counter → heights l.graph.edges.now l.counter ≡ heights l.graph.edges.now (l.counter - 1) → ⊥)
