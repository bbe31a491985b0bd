use Rattle.std.proofs.Common.{◌≡◌, List, map, ap, ◌∙◌}
use Rattle.std.proofs.lemmas.Result.{IfOk-weaker}
use Rattle.syntax.specs.Entries.{Entry, entry_of}
use Rattle.schedule.specs.Edges.{edge_by, edges}
use Rattle.schedule.proofs.Placing.{edges_same}
use Rattle.schedule.proofs.edges.list_edges.Goals as goal

pub returns : goal.returns
returns c =
    let rs : List Entry = map entry_of c.args.ordered.now.records.now in
    IfOk-weaker c.make_edges.result _ (λ v. v.items ≡ edges rs)
    (λ v e. e ∙ ap (map (edge_by c.new.result)) (c.deref.ensures.value ∙ c.in_ok-references.ensures) ∙ edges_same rs c.args.ordered.now.orderly c.new.result c.new.ensures)
    c.make_edges.ensures
