use Rattle.std.proofs.Common.{◌≡◌, ◌-◌, Bor, IsSome, Some, Option, sym, ap, ◌∙◌, subst, arith, rules}
use Rattle.std.specs.List.{AllByRecursion}
use Rattle.std.specs.Option.{option_copied}
use Rattle.walks.specs.declared.edge.Edge.{Edge}
use Rattle.walks.proofs.Through.{graph_bounded}
use Rattle.search.specs.Rows.{Low}
use Rattle.search.proofs.Layers.{layer_low}
use Rattle.search.proofs.Backwards.{going_edge, going_bounded, going_less, going_more, going_all}
use Rattle.search.proofs.listing.list_walk.Goals.{After-unwrap-edge}
use Rattle.search.proofs.listing.list_walk.Goals as goal

pub find_into-requires : goal.find_into-requires
find_into-requires c =
    subst (AllByRecursion (Low 8192)) (sym (c.layers-rows.ensures (c.loop-k.k - 1) (omega (arith, c.loop-k.invariant.long))))
    (layer_low c.args.graph.now.edges.now (graph_bounded c.args.graph.now) c.args.start.row c.args.start.low (c.loop-k.k - 1) (omega (arith, c.loop-k.invariant.long, c.args.arrival.short)))

copied_some : (o : Option (Bor Edge)) (r : Edge) → option_copied o ≡ Some r → IsSome o
copied_some o r e = search rules

pub unwrap-edge-requires : goal.unwrap-edge-requires
unwrap-edge-requires c =
    let (r, e) = going_edge c.loop-k.invariant c.args.start.row c.layers-rows.ensures c.loop-k-test.true in
    copied_some c.find_into.result r (c.find_into.ensures ∙ e)

pub lift-left-requires : goal.lift-left-requires
lift-left-requires c =
    going_bounded c.loop-k.invariant c.args.start.row c.layers-rows.ensures c.loop-k-test.true (graph_bounded c.args.graph.now) c.unwrap-edge.result.now
    (sym c.find_into.ensures ∙ ap option_copied c.unwrap-edge.ensures)

pub overflow_sub-left : goal.overflow_sub-left
overflow_sub-left c =
    omega (
      arith,
      c.lift-left.ensures,
      going_less c.loop-k.invariant c.args.start.row c.layers-rows.ensures c.loop-k-test.true (graph_bounded c.args.graph.now) c.unwrap-edge.result.now
          (sym c.find_into.ensures ∙ ap option_copied c.unwrap-edge.ensures),
    )

pub loop-k-preserved : goal.loop-k-preserved
loop-k-preserved c =
    going_more c.loop-k.invariant c.args.start.row c.layers-rows.ensures c.loop-k-test.true (graph_bounded c.args.graph.now) c.unwrap-edge.result.now
    (sym c.find_into.ensures ∙ ap option_copied c.unwrap-edge.ensures) c.requires.space c.lift-left.result c.lift-left.ensures

pub returns : goal.returns
returns c = going_all c.loop-k.invariant c.args.start.row c.layers-rows.ensures c.args.arrival.within c.args.arrival.short c.args.start.low c.unwrap-left.ensures (omega arith)
