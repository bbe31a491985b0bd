use Rattle.std.proofs.Common.{◌≡◌, ◌-◌}
use Rattle.layout.specs.Climbs.{climbed, heights}
use Rattle.layout.proofs.heights.rest_by_rows.Given as goal

abbrev pub invariant-loop : goal.invariant-loop
invariant-loop l =
    (l.row ≡ climbed l.graph.edges.now l.before)
    × (l.row ≡ heights l.graph.edges.now l.counter)
    × (heights l.graph.edges.now l.counter ≡ heights l.graph.edges.now (l.counter - 1) → ⊥)
