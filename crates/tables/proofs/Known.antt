-- What follows from what is known of a table. Assumes nothing.
use Rattle.std.proofs.Common.{◌≡◌, ℕ, ◌+◌, ◌<◌, ◌≤◌, List, [], ◌∷◌, length, map, get_or, Ok, refl, sym, ap, ◌∙◌, subst, arith}
use Rattle.std.proofs.Math.Logic.{∥∥₁_elim}
use Rattle.std.specs.Coded.{le_prop}
use Rattle.std.proofs.lemmas.List.{length-map, get_or-map, get_or_append_left, get_or-append-add}
use Rattle.syntax.specs.declared.record.Kind.TheVariants as kind
use Rattle.syntax.specs.Entries.{Entry, count}
use Rattle.syntax.specs.Entries as entry
use Rattle.typing.specs.Judging.{types_in}
use Rattle.typing.specs.Scopes.{channel_types, stream_types}
use Rattle.schedule.specs.Graphs.{channel, stream}
use Rattle.schedule.specs.Plans.{ring_count, ring_in, ring_of, no_ring}
use Rattle.schedule.specs.Serving.{Serves}
use Rattle.schedule.proofs.Standing.{orderly}
use Rattle.schedule.proofs.Serving.{serves}
use Rattle.tables.specs.declared.content.Channel.{Channel}
use Rattle.tables.specs.declared.content.Stream.{Stream}
use Rattle.tables.specs.declared.table.Table.{Table}
use Rattle.tables.specs.Contents.{Lies, of_kind, channel_entry, stream_entry, rule_entry, channel_rings, stream_rings}
use Rattle.tables.specs.Tables.{bytes_of, records_of, channels_of, streams_of, rules_of, plan_of, IsAccepted}
use Rattle.tables.proofs.Passing.{passes}
use Rattle.tables.proofs.Sorting.{length_of_kind}

-- ---- the types of the records of a kind
channel_types_of_kind : (rs : List Entry) → channel_types (of_kind kind.Channel rs) ≡ channel_types rs
channel_types_of_kind [] = refl
channel_types_of_kind (entry.channel t ∷ rs) = ap (λ l. t ∷ l) (channel_types_of_kind rs)
channel_types_of_kind (entry.stream t vs e ∷ rs) = channel_types_of_kind rs
channel_types_of_kind (entry.rule g es ∷ rs) = channel_types_of_kind rs

stream_types_of_kind : (rs : List Entry) → stream_types (of_kind kind.Stream rs) ≡ stream_types rs
stream_types_of_kind [] = refl
stream_types_of_kind (entry.channel t ∷ rs) = stream_types_of_kind rs
stream_types_of_kind (entry.stream t vs e ∷ rs) = ap (λ l. t ∷ l) (stream_types_of_kind rs)
stream_types_of_kind (entry.rule g es ∷ rs) = stream_types_of_kind rs

channel_types_by : (cs : List Channel) → map (λ c. c.ty) cs ≡ channel_types (map channel_entry cs)
channel_types_by [] = refl
channel_types_by (c ∷ cs) = ap (λ l. c.ty ∷ l) (channel_types_by cs)

stream_types_by : (ss : List Stream) → map (λ s. s.ty) ss ≡ stream_types (map stream_entry ss)
stream_types_by [] = refl
stream_types_by (s ∷ ss) = ap (λ l. s.ty ∷ l) (stream_types_by ss)

module _ (t : Table) (a : IsAccepted t) where
  pub well_typed : types_in (records_of t) ≡ Ok tt
  well_typed = (passes (bytes_of t) (records_of t) a.passed).typed

  -- ---- as many as the records have, of their types
  pub channel_count : length (channels_of t) ≡ count kind.Channel (records_of t)
  channel_count = sym (length-map (channels_of t) channel_entry) ∙ ap length a.sorts.kinds.channels_are ∙ length_of_kind kind.Channel (records_of t)

  pub stream_count : length (streams_of t) ≡ count kind.Stream (records_of t)
  stream_count = sym (length-map (streams_of t) stream_entry) ∙ ap length a.sorts.kinds.streams_are ∙ length_of_kind kind.Stream (records_of t)

  pub rule_count : length (rules_of t) ≡ count kind.Rule (records_of t)
  rule_count = sym (length-map (rules_of t) rule_entry) ∙ ap length a.sorts.kinds.rules_are ∙ length_of_kind kind.Rule (records_of t)

  pub channel_types_are : map (λ c. c.ty) (channels_of t) ≡ channel_types (records_of t)
  channel_types_are = channel_types_by (channels_of t) ∙ ap channel_types a.sorts.kinds.channels_are ∙ channel_types_of_kind (records_of t)

  pub stream_types_are : map (λ s. s.ty) (streams_of t) ≡ stream_types (records_of t)
  stream_types_are = stream_types_by (streams_of t) ∙ ap stream_types a.sorts.kinds.streams_are ∙ stream_types_of_kind (records_of t)

  -- ---- what a tick reads of its rings and its order
  pub served : Serves (records_of t) (plan_of t)
  served = serves (records_of t) (orderly (records_of t) a.in_order) (plan_of t) a.planned

  module _ (n : ℕ) where
    pub ring_of_channel : (c : Channel) → n < length (channels_of t) → (get_or (channels_of t) n c).ring ≡ ring_of (plan_of t) (channel n)
    ring_of_channel c inside = sym (get_or-map (λ (x : Channel). x.ring) (channels_of t) n c no_ring inside)
        ∙ sym (get_or_append_left (channel_rings (channels_of t)) (stream_rings (streams_of t)) no_ring n (omega (arith, length-map (channels_of t) (λ (x : Channel). x.ring))))
        ∙ ap (λ l. get_or l n no_ring) a.sorts.rings

    pub ring_of_stream : (s : Stream) → n < length (streams_of t) → (get_or (streams_of t) n s).ring ≡ ring_of (plan_of t) (stream n)
    ring_of_stream s inside =
        let rings = channel_rings (channels_of t) in
        let first : length rings ≡ (plan_of t).counts.records.channels = omega (arith, length-map (channels_of t) (λ (x : Channel). x.ring), channel_count, ap (λ c. c.records.channels) a.planned.counts) in
        sym (get_or-map (λ (x : Stream). x.ring) (streams_of t) n s no_ring inside)
        ∙ sym (get_or-append-add rings (stream_rings (streams_of t)) n no_ring)
        ∙ ap (λ l. get_or l (length rings + n) no_ring) a.sorts.rings
        ∙ ap (λ i. ring_in (plan_of t) (i + n)) first

-- ---- of any table, with nothing asked: its rings have slots, lie within the plan's, and the plan's are few
module _ (t : Table) where
  pub few_slots : (plan_of t).counts.slots ≤ 2048
  few_slots = ∥∥₁_elim t.accepted (hlevel le_prop) (λ a. a.small)

  pub channel_lies : (n : ℕ) (c : Channel) → n < length (channels_of t) → Lies (plan_of t).counts.slots (get_or (channels_of t) n c).ring
  channel_lies n c inside = ∥∥₁_elim t.accepted (hlevel le_prop) (λ a.
      let s = served t a in
      let q : n < ring_count (records_of t) = omega (arith, channel_count t a) in
      subst (Lies (plan_of t).counts.slots) (sym (ring_of_channel t a n c inside)) (s.some n q, s.within n q))

  pub stream_lies : (n : ℕ) (x : Stream) → n < length (streams_of t) → Lies (plan_of t).counts.slots (get_or (streams_of t) n x).ring
  stream_lies n x inside = ∥∥₁_elim t.accepted (hlevel le_prop) (λ a.
      let s = served t a in
      let m = (plan_of t).counts.records.channels in
      let q : m + n < ring_count (records_of t) = omega (arith, stream_count t a, ap (λ c. c.records.channels) a.planned.counts) in
      subst (Lies (plan_of t).counts.slots) (sym (ring_of_stream t a n x inside)) (s.some (m + n) q, s.within (m + n) q))
