-- The row is that of the climbs so far, and each of them has changed it.
use Rattle.std.proofs.Common.{◌≡◌, ◌+◌, ◌-◌, sym, ap, ◌∙◌, subst, arith, rules}
use Rattle.walks.proofs.Through.{graph_bounded}
use Rattle.layout.specs.Climbs.{Low, climbed, heights}
use Rattle.layout.proofs.Climbs.{zeros_low, heights_low, heights_more}
use Rattle.layout.proofs.Slopes.{slopes_low}
use Rattle.layout.proofs.heights.rest_by_rows.Goals as goal

pub climb-before-requires : goal.climb-before-requires
climb-before-requires c = zeros_low

pub climb-row-requires : goal.climb-row-requires
unfolding heights
climb-row-requires c =
    subst (Low 900000) (sym c.climb-before.ensures) (heights_low c.args.graph.now.edges.now (graph_bounded c.args.graph.now) 1 (omega arith))

pub returns-then-eq-2 : goal.returns-then-eq-2
unfolding heights
returns-then-eq-2 c =
    let same : c.climb-row.result ≡ c.climb-before.result = search rules in
    record { climbs = 1; few = omega arith; made = same ∙ c.climb-before.ensures; still = ap (climbed c.args.graph.now.edges.now) same ∙ sym c.climb-row.ensures }

pub climb_on-next-requires : goal.climb_on-next-requires
climb_on-next-requires c =
    let (_, row, _) = c.loop.invariant in
    let es = c.args.graph.now.edges.now in
    let bounded = graph_bounded c.args.graph.now in
    record { low = (subst (Low 900000) (sym row) (heights_low es bounded c.loop.counter (omega arith)), slopes_low es bounded c.slopes-rows.result c.slopes-rows.ensures) }

pub returns-then-eq-3 : goal.returns-then-eq-3
returns-then-eq-3 c =
    let (last, row, _) = c.loop.invariant in
    let es = c.args.graph.now.edges.now in
    let next = c.climb_on-next.ensures es (graph_bounded c.args.graph.now) c.slopes-rows.ensures last in
    let same : c.climb_on-next.result ≡ c.loop.row = search rules in
    record { climbs = c.loop.counter; few = omega (arith, c.loop-test.true); made = row; still = sym next ∙ same }

pub loop-preserved : goal.loop-preserved
loop-preserved c =
    let (last, row, _) = c.loop.invariant in
    let es = c.args.graph.now.edges.now in
    let next = c.climb_on-next.ensures es (graph_bounded c.args.graph.now) c.slopes-rows.ensures last in
    let high : c.climb_on-next.result ≡ heights es (c.loop.counter + 1) = next ∙ ap (climbed es) row ∙ sym (heights_more es c.loop.counter) in
    let less : c.loop.counter + 1 - 1 ≡ c.loop.counter = omega arith in
    let other : c.climb_on-next.result ≡ c.loop.row → ⊥ = search rules in
    (next, high, λ still. other (high ∙ still ∙ ap (heights es) less ∙ sym row))

pub returns : goal.returns
unfolding heights
returns c =
    let (_, _, moved) = c.loop.invariant in
    let all : c.loop.counter ≡ 34 = omega (arith, c.loop-test.false, c.loop.auto.counter-end) in
    subst (λ k. heights c.args.graph.now.edges.now k ≡ heights c.args.graph.now.edges.now (k - 1) → ⊥) all moved
