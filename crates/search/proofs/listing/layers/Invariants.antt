use Rattle.std.proofs.Common.{◌≡◌, ℕ, ◌+◌, ◌<◌, [], get_or}
use Rattle.search.specs.Rows.{layer}
use Rattle.search.proofs.listing.layers.Given as goal

abbrev pub invariant-loop-next : goal.invariant-loop-next
invariant-loop-next l = record {
  last : l.row ≡ layer l.graph.edges.now l.fn.start.row l.next-index;
  filled : (k : ℕ) → k < l.next-index → get_or l.next-items k [] ≡ layer l.graph.edges.now l.fn.start.row (k + 1);
}
