use Rattle.std.proofs.Common.{◌≡◌, ◌-◌, ◌<◌}
use Rattle.search.specs.Rows.{layer}
use Rattle.search.specs.Arrivals.{aim, Missed}
use Rattle.search.proofs.arrival.first_arrival.Given as goal

abbrev pub invariant-loop-length : goal.invariant-loop-length
invariant-loop-length l = record {
  some : 0 < l.length;
  last : l.row ≡ layer l.graph.edges.now l.initial.row (l.length - 1);
  missed : Missed l.graph.edges.now l.initial.row (aim l.target) (l.length - 1);
}
