use Rattle.std.proofs.Common.{◌+◌, ℕ, List, Option, refl, subst, rules}
use Rattle.search.specs.Arrivals.{Missed, First}
use Rattle.search.specs.Listings.{Listed}
use Rattle.search.proofs.Searches.{at_start}
use Rattle.search.proofs.Decided.{missed_settled, first_told}
use Rattle.search.proofs.ahead.find_channel_walk.Goals as goal

pub returns-in_err-found-clause-found : goal.returns-in_err-found-clause-found
returns-in_err-found-clause-found c =
    rw c.from_residual.ensures (
      missed_settled c.args.graph.now.channels c.args.graph.now.streams c.args.graph.now.edges.now c.args.graph.now.fits c.requires.falls
          (at_start (Missed c.args.graph.now.edges.now) _ _ _ _ _ _ c.everywhere-start.ensures c.channels-target.ensures refl c.in_err-found.ensures),
      search rules,
    )

pub returns-clause-found : goal.returns-clause-found
returns-clause-found c = first_told c.args.graph.now.channels c.args.graph.now.streams c.args.graph.now.edges.now c.args.graph.now.fits c.requires.falls c.in_ok-found.found (c.args.graph.now.streams + 1)
    c.args.sheet.now.entries.now c.list_walk.new.sheet
    (at_start (λ s t m. First c.args.graph.now.edges.now s t m c.in_ok-found.found) _ _ _ _ _ _ c.everywhere-start.ensures c.channels-target.ensures refl c.in_ok-found.ensures)
    (subst (λ (x : List (Option ℕ)). Listed c.args.graph.now.edges.now x c.in_ok-found.found c.args.sheet.now.entries.now c.list_walk.new.sheet) c.everywhere-start.ensures c.list_walk.ensures)
