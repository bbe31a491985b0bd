use Rattle.std.proofs.Common.{◌≡◌, ℕ, List, map, rules}
use Rattle.syntax.specs.Entries.{Entry, entry_of}
use Rattle.schedule.specs.declared.nodes.Node.{Node}
use Rattle.schedule.specs.Edges.{described, id_at, no_node}
use Rattle.layout.proofs.Making.{made_each}
use Rattle.schedule.proofs.nodes.Nodes.new.Goals as goal

pub returns : goal.returns
returns c =
    let rs : List Entry = map entry_of c.args.ordered.now.records.now in
    record {
      counts = c.of-numbering.ensures;
      told = λ m l. made_each _ _ _ (λ (m : ℕ) (y : Node). y ≡ described rs (id_at rs m)) (λ i y q k. (search rules, search rules)) 64 c.from_fn.ensures.items m no_node l;
    }
