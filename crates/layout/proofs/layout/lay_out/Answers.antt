-- Heights at rest give the layout.
use Rattle.std.proofs.Common.{ℕ, List, sym, subst}
use Rattle.layout.specs.Orders.{rank, Ranked}
use Rattle.layout.proofs.Laying.{laid}
use Rattle.layout.proofs.layout.lay_out.Goals as goal

pub returns : goal.returns
returns c =
    let order = c.from-order.result in
    let ranked = subst (λ (l : List ℕ). Ranked l (rank c.in_ok-heights.heights c.args.graph.now.channels) c.args.graph.now.streams) (sym c.from-order.ensures) c.evaluation_order.ensures in
    laid c.args.graph.now.channels c.args.graph.now.streams c.args.graph.now.edges.now c.args.graph.now.fits c.in_ok-heights.heights c.in_ok-heights.ensures order ranked
    c.leads_of-leads.result c.ring_lengths-lengths.result c.leads_of-leads.ensures c.ring_lengths-lengths.ensures
