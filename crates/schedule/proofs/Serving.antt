-- That a plan serves its table's references. Assumes nothing.
use Rattle.std.proofs.Common.{◌≡◌, ℕ, zero, suc, ◌+◌, ◌-◌, ◌<◌, ◌≤◌, List, [], ◌∷◌, pos, ◌≤ℤ◌, refl, ap, arith}
use native.Mathlib.Decide.{dec_lt}
use Rattle.std.proofs.lemmas.Int.{ints}
use Rattle.syntax.specs.declared.record.Kind.{Kind}
use Rattle.syntax.specs.declared.record.Kind.TheVariants.{Channel, Stream, Rule}
use Rattle.syntax.specs.Entries.{Entry, count}
use Rattle.references.specs.declared.reference.Id.{Id}
use Rattle.references.specs.declared.reference.Reference.{Reference}
use Rattle.references.specs.References.{references}
use Rattle.walks.specs.Walks.{In, Walk, weigh, Lead}
use Rattle.walks.proofs.Cut.{lead_up, Last, last}
use Rattle.schedule.specs.declared.plan.Plan.{Plan}
use Rattle.schedule.specs.Graphs.{channel, stream, graph}
use Rattle.schedule.specs.Edges.{Valid, Orderly}
use Rattle.schedule.specs.Plans.{ring_count, HasRing, lead_of_kind, slots_before, length_in, length_of, lead_in, lead_of, Planned}
use Rattle.schedule.specs.Serving.{Finds, Serves}
use Rattle.schedule.proofs.Carrying.{stands}
use Rattle.schedule.proofs.Taking.{slots_more, slots_listed, channel_ring, stream_ring}

slots_up : (f : ℕ → ℕ) (q d : ℕ) → slots_before f q ≤ slots_before f (q + d)
slots_up f q zero = let e : q + zero ≡ q = omega arith in omega (arith, ap (slots_before f) e)
slots_up f q (suc d) = let e : q + suc d ≡ q + d + 1 = omega arith in omega (arith, slots_up f q d, slots_more f (q + d), ap (slots_before f) e)

-- the rings before the m-th hold those before the q-th and the q-th
slots_within : (f : ℕ → ℕ) (q m : ℕ) → q < m → slots_before f q + f q ≤ slots_before f m
slots_within f q m l = let e : q + 1 + (m - (q + 1)) ≡ m = omega arith in omega (arith, slots_more f q, slots_up f (q + 1) (m - (q + 1)), ap (slots_before f) e)

module _ (rs : List Entry) (o : Orderly rs) (p : Plan) (k : Planned rs p) where
  channels_are : p.counts.records.channels ≡ count Channel rs
  channels_are = ap (λ c. c.records.channels) k.counts

  -- nothing reads a rule, so only the empty walk ends in one
  to_rule : (n : ℕ) (a : Id) (w : List Reference) → Walk (graph rs) a w (record { kind = Rule; number = n }) → weigh (graph rs) w ≤ℤ pos 0
  to_rule n a [] g = omega (arith, ints)
  to_rule n a (r ∷ w) g =
      let l : Last (graph rs) a (r ∷ w) (record { kind = Rule; number = n }) = last (graph rs) a r w (record { kind = Rule; number = n }) g in
      absurd ((stands rs o l.ref l.listed).no_rule (ap (λ (x : Id). x.kind) l.ends))

  -- a record's lead is the greatest weight of any walk to it, also where it is a channel's or a rule's
  leading : (id : Id) → Valid rs id → Lead (graph rs) id (lead_of p id)
  leading id valid = go id.kind id.number valid
    where
      go : (x : Kind) (n : ℕ) → n < count x rs → Lead (graph rs) (record { kind = x; number = n }) (lead_of_kind (lead_in p) x n)
      go Channel n l = record { reached = (channel n, [], refl, refl); most = λ a w g. k.settled a (channel n) w refl g }
      go Stream n l = k.measured.leads n l
      go Rule n l = record { reached = (record { kind = Rule; number = n }, [], refl, refl); most = to_rule n }

  finds : (r : Reference) → In r (references [] rs) → Finds rs p r
  finds r m =
      let s = stands rs o r m in
      let ring = k.measured.lengths r.read (record { valid = s.read; no_rule = s.no_rule }) in
      record {
        made = lead_up (graph rs) r (lead_of p r.reader) (lead_of p r.read) m (leading r.reader s.reader) (leading r.read s.read);
        kept = omega (arith, ints, ring.all r m refl, ring.is);
      }

  has_slot : (id : Id) → HasRing rs id → 0 < length_of p id
  has_slot id h = let ring = k.measured.lengths id h in omega (arith, ints, ring.own, ring.is)

  some : (q : ℕ) → q < ring_count rs → 0 < length_in p q
  some q l = elim (dec_lt q (count Channel rs)) [
    | yes h ↦ has_slot (channel q) (channel_ring rs q h)
    | no h ↦
        let e : p.counts.records.channels + (q - count Channel rs) ≡ q = omega (arith, channels_are) in
        omega (arith, has_slot (stream (q - count Channel rs)) (stream_ring rs (q - count Channel rs) (omega arith)), ap (length_in p) e)
  ]

  pub serves : Serves rs p
  serves = record {
    finds = finds;
    sampled = λ r m c. omega (arith, ints, (finds r m).made, ap (λ (x : Kind). lead_of_kind (lead_in p) x r.read.number) c);
    order = k.order;
    some = some;
    first = λ l. k.bases 0 l;
    next = λ q l. omega (arith, k.bases q (omega arith), k.bases (q + 1) l, slots_more (length_in p) q);
    within = λ q l. omega (arith, k.bases q l, slots_within (length_in p) q (ring_count rs) l, slots_listed rs p channels_are, ap (λ c. c.slots) k.counts);
  }
