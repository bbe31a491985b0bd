-- Records and their nodes: each node comes from one record, and edges lie within the limits. Assumes nothing.
use Rattle.std.proofs.Common.{◌≡◌, ℕ, ◌+◌, ◌-◌, ◌<◌, ◌≤◌, List, [], ◌∷◌, map, get_or, sym, refl, ap, ◌∙◌, arith}
use Rattle.std.specs.List.{AllByRecursion}
use Rattle.std.proofs.ByRecursion.{All-map, All-weaker}
use Rattle.std.proofs.lemmas.Bool.{lt-ltb, le-ltb, cond-true, cond-false}
use Rattle.syntax.specs.declared.record.Kind.{Kind}
use Rattle.syntax.specs.declared.record.Kind.TheVariants.{Channel, Stream, Rule}
use Rattle.syntax.specs.Entries.{Entry, count}
use Rattle.references.specs.declared.reference.Id.{Id}
use Rattle.references.specs.declared.reference.Reference.{Reference}
use Rattle.references.specs.References.{references}
use Rattle.walks.specs.Edges.{Fit, Fits}
use Rattle.syntax.specs.declared.record.Counts.{Counts}
use Rattle.schedule.specs.declared.nodes.Nodes.{Nodes}
use Rattle.schedule.specs.Edges.{Valid, Stands, Orderly, node_by, id_by, node, id_at, described, no_node, Describes, node_in, told_in, edge_by, edge, edges}
use Rattle.schedule.proofs.Describing.{openings_few}

-- ---- a node's record
-- how many records of a kind there are, among so many of each
abbrev many : ℕ → ℕ → ℕ → Kind → ℕ
many channels streams rules Channel = channels
many channels streams rules Stream = streams
many channels streams rules Rule = rules

back_by : (channels streams rules : ℕ) (k : Kind) (n : ℕ) → n < many channels streams rules k → id_by channels streams (node_by channels streams k n) ≡ record { kind = k; number = n }
back_by channels streams rules Channel n l = cond-true _ _ _ (lt-ltb n channels l)
back_by channels streams rules Stream n l =
    let number : channels + n - channels ≡ n = omega arith in
    cond-false _ _ _ (le-ltb (channels + n) channels (omega arith)) ∙ cond-true _ _ _ (lt-ltb (channels + n) (channels + streams) (omega arith)) ∙
    ap (λ m. record { kind = Stream; number = m }) number
back_by channels streams rules Rule n l =
    let number : channels + streams + n - (channels + streams) ≡ n = omega arith in
    cond-false _ _ _ (le-ltb (channels + streams + n) channels (omega arith)) ∙ cond-false _ _ _ (le-ltb (channels + streams + n) (channels + streams) (omega arith)) ∙
    ap (λ m. record { kind = Rule; number = m }) number

many_is : (rs : List Entry) (k : Kind) → many (count Channel rs) (count Stream rs) (count Rule rs) k ≡ count k rs
many_is rs Channel = refl
many_is rs Stream = refl
many_is rs Rule = refl

pub node_back : (rs : List Entry) (id : Id) → Valid rs id → id_at rs (node rs id) ≡ id
unfolding node id_at
node_back rs id valid = back_by (count Channel rs) (count Stream rs) (count Rule rs) id.kind id.number (omega (arith, many_is rs id.kind))

-- two records of one node are one
pub node_one : (rs : List Entry) (a b : Id) → Valid rs a → Valid rs b → node rs a ≡ node rs b → a ≡ b
node_one rs a b va vb e = sym (node_back rs a va) ∙ ap (id_at rs) e ∙ node_back rs b vb

-- ---- nodes and edges within the limits
module _ (rs : List Entry) (o : Orderly rs) where
  node_kind : (k : Kind) (n : ℕ) → n < count k rs → node_by (count Channel rs) (count Stream rs) k n < 64
  node_kind Channel n l = omega (arith, o.few Channel)
  node_kind Stream n l = omega (arith, o.few Channel, o.few Stream)
  node_kind Rule n l = omega (arith, o.few Channel, o.few Stream, o.few Rule)

  pub node_low : (id : Id) → Valid rs id → node rs id < 64
  unfolding node
  node_low id valid = node_kind id.kind id.number valid

  reads_kind : (k : Kind) (n : ℕ) → ¬ (k ≡ Channel) → count Channel rs ≤ node_by (count Channel rs) (count Stream rs) k n
  reads_kind Channel n h = absurd (h refl)
  reads_kind Stream n h = omega arith
  reads_kind Rule n h = omega arith

  read_kind : (k : Kind) (n : ℕ) → ¬ (k ≡ Rule) → n < count k rs → node_by (count Channel rs) (count Stream rs) k n < count Channel rs + count Stream rs
  read_kind Channel n h l = omega arith
  read_kind Stream n h l = omega arith
  read_kind Rule n h l = absurd (h refl)

  fit : (r : Reference) → Stands rs r → Fit (count Channel rs) (count Stream rs) (edge rs r)
  unfolding node
  fit r s = record {
    reads = reads_kind r.reader.kind r.reader.number s.reads;
    reader = node_kind r.reader.kind r.reader.number s.reader;
    read = read_kind r.read.kind r.read.number s.no_rule s.read;
    drop = s.near;
    opening = openings_few rs r.reader o.opens;
  }

  pub all_fit : Fits (count Channel rs) (count Stream rs) (edges rs)
  all_fit = record {
    few_channels = o.few Channel;
    few_streams = o.few Stream;
    edges = All-map (Fit (count Channel rs) (count Stream rs)) (edge rs) (references [] rs) (All-weaker (Stands rs) (λ r. Fit (count Channel rs) (count Stream rs) (edge rs r)) fit (references [] rs) o.stand);
  }

  -- what is told of a record's node is told of the record
  told_same : (ns : Nodes) → Describes rs ns → (id : Id) → Valid rs id → (node_in ns id ≡ node rs id) × (told_in ns id ≡ described rs id)
  unfolding node
  told_same ns d id valid =
      let at : node_in ns id ≡ node rs id = ap (λ (n : Counts). node_by n.channels n.streams id.kind id.number) d.counts in
      (at, ap (λ m. get_or ns.told m no_node) at ∙ d.told (node rs id) (node_kind id.kind id.number valid) ∙ ap (described rs) (node_back rs id valid))

  edge_same : (ns : Nodes) → Describes rs ns → (r : Reference) → Stands rs r → edge_by ns r ≡ edge rs r
  edge_same ns d r s =
      let (at, told) = told_same ns d r.reader s.reader in
      let (at', told') = told_same ns d r.read s.read in
      λ i. record {
        entry = record { reader = (told i).number; read = (told' i).number; drop = r.drop };
        reader = at i;
        read = at' i;
        opening = (told i).opening;
      }

  map_same : {X Y : Type 0} (f g : X → Y) (P : X → Type 0) → ((x : X) → P x → f x ≡ g x) → (xs : List X) → AllByRecursion P xs → map f xs ≡ map g xs
  map_same f g P same [] all = refl
  map_same f g P same (x ∷ xs) all = λ i. same x all.0 i ∷ map_same f g P same xs all.1 i

  pub edges_same : (ns : Nodes) → Describes rs ns → map (edge_by ns) (references [] rs) ≡ edges rs
  edges_same ns d = map_same (edge_by ns) (edge rs) (Stands rs) (edge_same ns d) (references [] rs) o.stand
