-- Leads, rings and slots of a table, and what its plan says of them. Assumes nothing.
use Rattle.std.specs.Prelude.{◌≡◌, ℕ, ◌+◌, ◌<◌, List, [], map, length, ℤ, pos, sum, slice_index, slice_index_or}
use Rattle.std.specs.List.{range_with_len}
use Rattle.syntax.specs.declared.record.Kind.{Kind}
use Rattle.syntax.specs.declared.record.Kind.TheVariants.{Channel, Stream, Rule}
use Rattle.syntax.specs.Counting.{counts_of}
use Rattle.syntax.specs.Entries.{Entry, count}
use Rattle.references.specs.declared.reference.Id.{Id}
use Rattle.references.specs.declared.reference.Reference.{Reference}
use Rattle.references.specs.References.{references}
use Rattle.walks.specs.Walks.{In, Falling, Settled, Lead, Newest, Ring}
use Rattle.lists.specs.Lists.{items}
use Rattle.layout.specs.Orders.{EachOnce}
use Rattle.schedule.specs.declared.plan.Counts.{Counts}
use Rattle.schedule.specs.declared.plan.Plan.{Plan}
use Rattle.schedule.specs.declared.plan.Ring.{Ring as Slots}
use Rattle.schedule.specs.Graphs.{channel, stream, graph, IsChannel}
use Rattle.schedule.specs.Edges.{Valid}

-- how many rings there are: one for each channel and each stream
abbrev pub ring_count : List Entry → ℕ
ring_count rs = count Channel rs + count Stream rs

-- a record that has a ring: a channel or a stream
pub record HasRing (rs : List Entry) (id : Id) : Type 0 where
  pub valid : Valid rs id
  pub no_rule : ¬ (id.kind ≡ Rule)

-- the lead of a record, from the leads of the streams by number: 0 for a channel, and for a rule, which nothing reads
abbrev pub lead_of_kind : (ℕ → ℕ) → Kind → ℕ → ℤ
lead_of_kind lead Channel n = pos 0
lead_of_kind lead Stream n = pos (lead n)
lead_of_kind lead Rule n = pos 0

abbrev pub lead_by : (ℕ → ℕ) → Id → ℤ
lead_by lead id = lead_of_kind lead id.kind id.number

-- each stream's lead by its number, and the length of each channel's and each stream's ring
pub record Measured (rs : List Entry) (lead : ℕ → ℕ) (length : Id → ℕ) : Type 0 where
  pub leads : (s : ℕ) → s < count Stream rs → Lead (graph rs) (stream s) (pos (lead s))
  pub lengths : (id : Id) → HasRing rs id → Ring (graph rs) (lead_by lead) id (length id)

-- the sum of the first q lengths
abbrev pub slots_before : (ℕ → ℕ) → ℕ → ℕ
slots_before length q = sum (map length (range_with_len 0 q))

-- the sum of the lengths of all channels' rings and all streams' rings
abbrev pub slots_of : List Entry → (Id → ℕ) → ℕ
slots_of rs length =
    slots_before (λ c. length (channel c)) (count Channel rs)
    + slots_before (λ s. length (stream s)) (count Stream rs)

-- all rings together take z slots
pub record Takes (rs : List Entry) (z : ℕ) : Type 0 where
  pub lead : ℕ → ℕ
  pub length : Id → ℕ
  pub measured : Measured rs lead length
  pub total : z ≡ slots_of rs length

-- a plan's rings and their lengths, in the order in which they lie
abbrev pub no_ring : Slots
no_ring = record { base = 0; length = 0; lead = 0 }

abbrev pub ring_in : Plan → ℕ → Slots
ring_in p q = slice_index_or (items p.rings) q no_ring

abbrev pub length_in : Plan → ℕ → ℕ
length_in p q = (ring_in p q).length

-- the ring of a record: the channels' lie first, by number, and then the streams'
abbrev pub ring_of_kind : Plan → Kind → ℕ → Slots
ring_of_kind p Channel n = ring_in p n
ring_of_kind p Stream n = ring_in p (p.counts.records.channels + n)
ring_of_kind p Rule n = no_ring

abbrev pub ring_of : Plan → Id → Slots
ring_of p id = ring_of_kind p id.kind id.number

abbrev pub length_of : Plan → Id → ℕ
length_of p id = (ring_of p id).length

-- the lead of a stream by its number, and of any record
abbrev pub lead_in : Plan → ℕ → ℕ
lead_in p s = (ring_of p (stream s)).lead

abbrev pub lead_of : Plan → Id → ℤ
lead_of p id = lead_by (lead_in p) id

-- the order has each stream once, and a stream whose newest value is read comes before its reader
pub record Ordered (rs : List Entry) (lead : ℕ → ℕ) (order : List ℕ) : Type 0 where
  pub each : EachOnce (count Stream rs) order
  pub before : (r : Reference) → In r (references [] rs) → Newest (graph rs) (lead_by lead) r →
      (i j : ℕ) → i < count Stream rs → j < count Stream rs →
      r.read ≡ stream (slice_index order i) → r.reader ≡ stream (slice_index order j) → i < j

-- how many records of each kind there are, with so many slots
abbrev pub counted : List Entry → ℕ → Counts
counted rs z = record { records = counts_of rs; slots = z }

-- a plan of a table, in which no closed walk weighs 0 or more and no walk to a channel more than 0; each ring begins where the one before ends
pub record Planned (rs : List Entry) (p : Plan) : Type 0 where
  pub falls : Falling (graph rs)
  pub settled : Settled (graph rs) IsChannel
  pub counts : p.counts ≡ counted rs (slots_of rs (length_of p))
  pub measured : Measured rs (lead_in p) (length_of p)
  pub bases : (q : ℕ) → q < ring_count rs → (ring_in p q).base ≡ slots_before (length_in p) q
  pub rings : length (items p.rings) ≡ ring_count rs
  pub order : Ordered rs (lead_in p) (items p.order)
