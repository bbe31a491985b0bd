use Rattle.std.proofs.Common.{sym, subst, rules}
use Rattle.std.proofs.ByRecursion.{All-get_or}
use Rattle.std.proofs.lemmas.Iterator.{YieldsList-from_slice}
use Rattle.std.proofs.lemmas.Iterator.Adapters.{serves_from_places}
use Rattle.schedule.specs.Edges.{Near}
use Rattle.schedule.proofs.edges.make_edges.Goals as goal

pub collect-requires-clause-can : goal.collect-requires-clause-can
collect-requires-clause-can c = (
  tt,
  serves_from_places (YieldsList-from_slice c.args.references.now (search rules)) (λ x q k. search rules) (λ x k l e.
      let near : Near c.args.nodes.now.numbering.counts x.now =
      subst (Near c.args.nodes.now.numbering.counts) (sym e) (All-get_or (Near c.args.nodes.now.numbering.counts) c.args.references.now k x.now l c.requires) in
      search rules),
)
