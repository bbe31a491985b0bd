use Rattle.std.proofs.Common.{sym, subst, rules}
use Rattle.std.proofs.lemmas.Iterator.{YieldsList-from_slice}
use Rattle.std.proofs.lemmas.Iterator.Adapters.{serves_from_places}
use Rattle.walks.specs.Edges.{Bounded}
use Rattle.walks.proofs.Through.{edge_bounded}
use Rattle.search.proofs.listing.find_into.Goals as goal

pub find-requires-clause-callable : goal.find-requires-clause-callable
find-requires-clause-callable c =
    serves_from_places (YieldsList-from_slice c.args.graph.now.edges.now (search rules)) (λ x q k. search rules) (λ x k l e.
    let b : Bounded x.now = subst Bounded (sym e) (edge_bounded c.args.graph.now k x.now l) in
    search rules)
