use Rattle.std.proofs.Common.{◌≡◌, ◌+◌, sym, refl, subst, arith}
use Rattle.std.specs.List.{AllByRecursion}
use Rattle.walks.proofs.Through.{graph_bounded}
use Rattle.search.specs.Rows.{Low, layer}
use Rattle.search.proofs.Layers.{layer_low, row_more, layers_more, layers_all}
use Rattle.search.proofs.listing.layers.Goals as goal

pub loop-next-init : goal.loop-next-init
unfolding layer
loop-next-init c = record { last = refl; filled = λ k h. absurd (omega arith) }

pub step-row-requires : goal.step-row-requires
step-row-requires c = subst (AllByRecursion (Low 8192)) (sym c.loop-next.invariant.last)
    (layer_low c.args.graph.now.edges.now (graph_bounded c.args.graph.now) c.args.start.row c.args.start.low c.loop-next.next-index (omega (arith, c.args.arrival.short)))

pub loop-next-preserved : goal.loop-next-preserved
loop-next-preserved c =
    let es = c.args.graph.now.edges.now in
    let k = c.loop-next.next-index in
    let is : c.step-row.result ≡ layer es c.args.start.row (k + 1) = row_more es c.args.start.row k c.loop-next.row c.step-row.result c.loop-next.invariant.last c.step-row.ensures in
    record { last = is; filled = layers_more es c.args.start.row k c.loop-next.next-items c.step-row.result (omega arith) c.loop-next.invariant.filled is }

pub returns : goal.returns
returns c = layers_all c.args.graph.now.edges.now c.args.start.row c.args.arrival.length c.loop-next.next-items _ (omega arith) (λ k h. c.loop-next.invariant.filled k (omega arith))
