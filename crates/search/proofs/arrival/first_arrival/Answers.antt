use Rattle.std.proofs.Common.{◌≡◌, ◌-◌, sym, refl, ap, ◌∙◌, subst, arith}
use Rattle.std.specs.List.{AllByRecursion}
use Rattle.walks.proofs.Through.{graph_bounded}
use Rattle.search.specs.Rows.{Low, layer}
use Rattle.search.specs.Arrivals.{aim}
use Rattle.search.proofs.Layers.{layer_low, row_next}
use Rattle.search.proofs.Searches.{missed_more, first_at}
use Rattle.search.proofs.arrival.first_arrival.Goals as goal

pub loop-length-init : goal.loop-length-init
unfolding layer
loop-length-init c = record { some = omega arith; last = refl; missed = λ k l h. absurd (omega arith) }

pub step-row-requires : goal.step-row-requires
step-row-requires c = subst (AllByRecursion (Low 8192)) (sym c.loop-length.invariant.last)
    (layer_low c.args.graph.now.edges.now (graph_bounded c.args.graph.now) c.args.start.row c.args.start.low (c.loop-length.length - 1) (omega (arith, c.requires)))

pub returns-in-Some : goal.returns-in-Some
returns-in-Some c =
    let es = c.args.graph.now.edges.now in
    let k = c.loop-length.length in
    first_at es c.args.start.row (aim c.args.target) k c.loop-length.invariant.some c.loop-length.invariant.missed c.step-row.result
    (row_next es c.args.start.row k c.loop-length.row c.step-row.result c.loop-length.invariant.some c.loop-length.invariant.last c.step-row.ensures)
    c.args.limit c.in-Some.node _ _ c.loop-length-test.true c.in-Some.ensures

pub returns-in_default : goal.returns-in_default
returns-in_default c =
    let es = c.args.graph.now.edges.now in
    let k = c.loop-length.length in
    λ j l h. missed_more es c.args.start.row (aim c.args.target) k c.loop-length.invariant.some c.loop-length.invariant.missed c.step-row.result
    (row_next es c.args.start.row k c.loop-length.row c.step-row.result c.loop-length.invariant.some c.loop-length.invariant.last c.step-row.ensures)
    c.in_default.ensures j l (omega arith)

pub loop-length-preserved : goal.loop-length-preserved
loop-length-preserved c =
    let es = c.args.graph.now.edges.now in
    let k = c.loop-length.length in
    let is : c.step-row.result ≡ layer es c.args.start.row k =
    row_next es c.args.start.row k c.loop-length.row c.step-row.result c.loop-length.invariant.some c.loop-length.invariant.last c.step-row.ensures in
    record {
      some = omega arith;
      last = is ∙ ap (layer es c.args.start.row) (omega arith);
      missed = λ j l h. missed_more es c.args.start.row (aim c.args.target) k c.loop-length.invariant.some c.loop-length.invariant.missed c.step-row.result is c.in_default.ensures j l (omega arith);
    }
