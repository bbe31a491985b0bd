use Rattle.std.proofs.Common.{List, map, sym, ap, ◌∙◌, arith}
use Rattle.std.proofs.lemmas.List.{length-map}
use Rattle.syntax.specs.declared.record.Counts.{Counts}
use Rattle.syntax.specs.Entries.{Entry, entry_of}
use Rattle.schedule.specs.Edges.{described, id_at, id_by}
use Rattle.schedule.proofs.Describing.{beyond}
use Rattle.schedule.proofs.nodes.describe_node.Goals as goal

pub returns-then-node-ordered : goal.returns-then-node-ordered
unfolding id_at
returns-then-node-ordered c =
    let rs : List Entry = map entry_of c.args.ordered.now.records.now in
    c.describe.ensures ∙ ap (described rs) (c.id.ensures ∙ ap (λ (n : Counts). id_by n.channels n.streams c.args.node) c.requires)

pub returns-else-node-ordered : goal.returns-else-node-ordered
returns-else-node-ordered c =
    let rs : List Entry = map entry_of c.args.ordered.now.records.now in
    let none = beyond rs c.args.node (omega (arith, c.if-node-ordered.false, length-map c.args.ordered.now.records.now entry_of)) in
    (λ i. record { number = c.default.ensures.0 i; opening = c.default.ensures.1 i }) ∙ sym none
