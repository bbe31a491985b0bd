use Rattle.std.proofs.Common.{◌≡◌, ◌-◌, true, false, get_or, None, refl, rules, tests}
use Rattle.std.proofs.lemmas.Iterator.{YieldsList-from_range, first_from_find}
use Rattle.search.specs.Rows.{reaches}
use Rattle.search.proofs.Searches.{found_between}
use Rattle.search.proofs.arrival.find_node.Goals as goal

pub returns : goal.returns
returns c =
    let row = c.args.row.now in
    found_between row c.args.target.now.first c.args.target.now.end c.args.least c.find.result
    (first_from_find _ _ c.find.result (λ b. reaches (get_or row b None) c.args.least ≡ true) (λ b. reaches (get_or row b None) c.args.least ≡ false)
    c.find.ensures.ran (YieldsList-from_range c.args.target.now.first c.args.target.now.end (c.args.target.now.end - c.args.target.now.first) (search rules) refl) (λ x q k. search (rules, tests)) (λ x q k. search (rules, tests)))
