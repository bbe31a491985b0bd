use Rattle.std.proofs.Common.{fold, ap, ◌∙◌}
use Rattle.std.proofs.lemmas.List.{take_all}
use Rattle.search.specs.Rows.{extended, nothing, stepped}
use Rattle.search.proofs.row.step.Goals as goal

pub returns : goal.returns
unfolding stepped
returns c =
    c.loop-edge.invariant ∙
    ap (fold (extended c.args.from.now) nothing) (take_all c.loop-edge.edge-index c.args.graph.now.edges.now c.loop-edge-test.false)
