use Rattle.std.proofs.Common.{ℕ, List, Option, subst, rules}
use Rattle.search.specs.Listings.{Listed}
use Rattle.search.proofs.Decided.{none_falls, fewest_told}
use Rattle.search.proofs.closed.find_closed_walk.Goals as goal

pub returns-in_err-found-clause-found : goal.returns-in_err-found-clause-found
returns-in_err-found-clause-found c =
    rw c.from_residual.ensures (none_falls c.args.graph.now.channels c.args.graph.now.streams c.args.graph.now.edges.now c.args.graph.now.fits c.in_err-found.ensures, search rules)

pub returns-clause-found : goal.returns-clause-found
returns-clause-found c = fewest_told c.args.graph.now.channels c.args.graph.now.streams c.args.graph.now.edges.now c.args.graph.now.fits c.in_ok-found.found
    c.args.sheet.now.entries.now c.list_walk.new.sheet c.in_ok-found.ensures
    (subst (λ (x : List (Option ℕ)). Listed c.args.graph.now.edges.now x c.in_ok-found.found c.args.sheet.now.entries.now c.list_walk.new.sheet)
    c.at.ensures c.list_walk.ensures)
