-- The references of a table as edges between numbered nodes: the channels by number, then the streams, then the rules. Assumes nothing.
use Rattle.std.specs.Prelude.{◌≡◌, ℕ, ◌+◌, ◌-◌, ◌<◌, ◌≤◌, cond, List, [], map, Some, Ok, nat_lt, slice_index_or}
use Rattle.std.specs.Coded.{→_prop, le_prop}
use Rattle.std.specs.List.{AllByRecursion, AllByRecursion-prop}
use Rattle.syntax.specs.declared.record.Kind.{Kind}
use Rattle.syntax.specs.declared.record.Kind.TheVariants.{Channel, Stream, Rule}
use Rattle.syntax.specs.Counting.{counts_of}
use Rattle.syntax.specs.Entries.{Entry, count, limit}
use Rattle.syntax.specs.Written.{Small}
use Rattle.names.specs.Declaring.{undeclared_in}
use Rattle.references.specs.declared.reference.Id.{Id}
use Rattle.references.specs.declared.reference.Reference.{Reference}
use Rattle.references.specs.References.{references}
use Rattle.walks.specs.declared.edge.Edge.{Edge}
use Rattle.schedule.specs.declared.nodes.Node.{Node}
use Rattle.schedule.specs.declared.nodes.Nodes.{Nodes}
use Rattle.syntax.specs.declared.record.Counts.{Counts}
use Rattle.schedule.specs.Graphs.{opening_count, openings, number_of, told}

-- what reading and the check of names show: the limits hold, and every name is declared
pub record InOrder (rs : List Entry) : Type 0 where
  pub small : AllByRecursion Small rs
  pub few : (k : Kind) → count k rs ≤ limit k
  pub named : undeclared_in rs ≡ Ok tt

-- there is a record with the id
abbrev pub Valid : List Entry → Id → Type 0
Valid rs id = id.number < count id.kind rs

-- a reference between records that there are, from a stream or rule to a channel or stream
pub record Stands (rs : List Entry) (r : Reference) : Type 0 where
  pub reader : Valid rs r.reader
  pub read : Valid rs r.read
  pub reads : ¬ (r.reader.kind ≡ Channel)
  pub no_rule : ¬ (r.read.kind ≡ Rule)
  pub near : r.drop ≤ 63

-- a record has at most 64 opening values
abbrev pub Opens : Entry → Type 0
Opens r = opening_count (Some r) ≤ 64

-- what a schedule needs of records in order: there are no more of a kind than its limit, none has too many opening values, and references stand between them
pub record Orderly (rs : List Entry) : Type 0 where
  pub few : (k : Kind) → count k rs ≤ limit k
  pub opens : AllByRecursion Opens rs
  pub stand : AllByRecursion (Stands rs) (references [] rs)

-- the node of a record of a kind and number, among so many channels and streams
abbrev pub node_by : ℕ → ℕ → Kind → ℕ → ℕ
node_by channels streams Channel n = n
node_by channels streams Stream n = channels + n
node_by channels streams Rule n = channels + streams + n

-- and back
abbrev pub id_by : ℕ → ℕ → ℕ → Id
id_by channels streams m =
    cond (nat_lt m channels) (record { kind = Channel; number = m })
    (cond (nat_lt m (channels + streams)) (record { kind = Stream; number = m - channels }) (record { kind = Rule; number = m - (channels + streams) }))

unfoldable pub node : List Entry → Id → ℕ
node rs id = node_by (count Channel rs) (count Stream rs) id.kind id.number

unfoldable pub id_at : List Entry → ℕ → Id
id_at rs m = id_by (count Channel rs) (count Stream rs) m

-- what an edge tells of the record with an id
abbrev pub described : List Entry → Id → Node
described rs id = record { number = number_of rs id; opening = openings rs id }

abbrev pub no_node : Node
no_node = record { number = 0; opening = 0 }

-- what is known of the nodes of a table
pub record Describes (rs : List Entry) (ns : Nodes) : Type 0 where
  pub counts : ns.numbering.counts ≡ counts_of rs
  pub told : (m : ℕ) → m < 64 → slice_index_or ns.told m no_node ≡ described rs (id_at rs m)

-- both ends of a reference are nodes
pub record Near (n : Counts) (r : Reference) : Type 0 where
  pub reader : node_by n.channels n.streams r.reader.kind r.reader.number < 64
  pub read : node_by n.channels n.streams r.read.kind r.read.number < 64

-- a reference as an edge, by what is known of the nodes
abbrev pub node_in : Nodes → Id → ℕ
node_in ns id = node_by ns.numbering.counts.channels ns.numbering.counts.streams id.kind id.number

abbrev pub told_in : Nodes → Id → Node
told_in ns id = slice_index_or ns.told (node_in ns id) no_node

abbrev pub edge_by : Nodes → Reference → Edge
edge_by ns r = record {
  entry = record { reader = (told_in ns r.reader).number; read = (told_in ns r.read).number; drop = r.drop };
  reader = node_in ns r.reader;
  read = node_in ns r.read;
  opening = (told_in ns r.reader).opening;
}

-- a reference as an edge, by the table's records
abbrev pub edge : List Entry → Reference → Edge
edge rs r = record { entry = told rs r; reader = node rs r.reader; read = node rs r.read; opening = openings rs r.reader }

abbrev pub edges : List Entry → List Edge
edges rs = map (edge rs) (references [] rs)

-- ---- records are orderly in one way at most
Stands-prop : (rs : List Entry) (r : Reference) → IsProp (Stands rs r)
Stands-prop rs r a b = λ i. record {
  reader = le_prop a.reader b.reader i;
  read = le_prop a.read b.read i;
  reads = →_prop (λ x y. absurd x) a.reads b.reads i;
  no_rule = →_prop (λ x y. absurd x) a.no_rule b.no_rule i;
  near = le_prop a.near b.near i;
}

pub Orderly-prop : (rs : List Entry) → IsProp (Orderly rs)
Orderly-prop rs a b = λ i. record {
  few = λ k. le_prop (a.few k) (b.few k) i;
  opens = AllByRecursion-prop Opens (λ r. le_prop) rs a.opens b.opens i;
  stand = AllByRecursion-prop (Stands rs) (Stands-prop rs) (references [] rs) a.stand b.stand i;
}
