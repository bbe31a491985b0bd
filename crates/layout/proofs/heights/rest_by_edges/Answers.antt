-- The row is that of the climbs so far, and each of them has changed it.
use Rattle.std.proofs.Common.{◌≡◌, ◌+◌, ◌-◌, sym, ap, ◌∙◌, subst, arith, rules}
use Rattle.walks.proofs.Through.{graph_bounded}
use Rattle.layout.specs.Climbs.{Low, climbed, heights}
use Rattle.layout.proofs.Climbs.{heights_low, heights_more}
use Rattle.layout.proofs.heights.rest_by_edges.Goals as goal

pub climb-next-requires : goal.climb-next-requires
climb-next-requires c =
    let es = c.args.graph.now.edges.now in
    subst (Low 900000) (sym c.loop.invariant.0) (heights_low es (graph_bounded c.args.graph.now) c.loop.counter (omega arith))

pub returns-then-eq : goal.returns-then-eq
returns-then-eq c =
    let same : c.climb-next.result ≡ c.loop.row = search rules in
    record { climbs = c.loop.counter; few = omega (arith, c.loop-test.true); made = c.loop.invariant.0; still = sym c.climb-next.ensures ∙ same }

pub loop-preserved : goal.loop-preserved
loop-preserved c =
    let (row, _) = c.loop.invariant in
    let es = c.args.graph.now.edges.now in
    let high : c.climb-next.result ≡ heights es (c.loop.counter + 1) = c.climb-next.ensures ∙ ap (climbed es) row ∙ sym (heights_more es c.loop.counter) in
    let less : c.loop.counter + 1 - 1 ≡ c.loop.counter = omega arith in
    let other : c.climb-next.result ≡ c.loop.row → ⊥ = search rules in
    (high, λ _ still. other (high ∙ still ∙ ap (heights es) less ∙ sym row))

pub returns : goal.returns
unfolding heights
returns c =
    let all : c.loop.counter ≡ 34 = omega (arith, c.loop-test.false, c.loop.auto.counter-end) in
    subst (λ k. heights c.args.graph.now.edges.now k ≡ heights c.args.graph.now.edges.now (k - 1) → ⊥) all (c.loop.invariant.1 (omega (arith, all)))
