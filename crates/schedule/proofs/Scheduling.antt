-- From what is said of edges to what is said of a table's records. Assumes nothing.
use Rattle.std.proofs.Common.{◌≡◌, ℕ, ◌+◌, ◌<◌, List, [], length, get_or, ℤ, ◌+ℤ◌, Ok, Err, Result, sym, ap, ◌∙◌, subst, inl, inr, arith}
use Rattle.faults.specs.declared.cause.Cause.{Cause}
use Rattle.syntax.specs.declared.record.Kind.TheVariants.{Channel, Stream, Rule}
use Rattle.syntax.specs.Entries.{Entry, count}
use Rattle.references.specs.declared.reference.Id.{Id}
use Rattle.references.specs.References.{references}
use Rattle.walks.specs.declared.edge.Edge.{Edge}
use Rattle.walks.specs.declared.edge.SheetEntry.{SheetEntry}
use Rattle.walks.specs.Walks.{Settled, Ring}
use Rattle.walks.specs.Edges as plain
use Rattle.walks.specs.Edges.{Fits}
use Rattle.layout.specs.declared.layout.Layout.{Layout}
use Rattle.layout.specs.Layouts as layouts
use Rattle.lists.specs.declared.list.List.{List as Listed}
use Rattle.lists.specs.Lists.{items}
use Rattle.std.proofs.lemmas.List.FromFn.{length-map-range_with_len, get_or-map-range_with_len}
use Rattle.schedule.specs.declared.plan.Plan.{Plan}
use Rattle.schedule.specs.declared.plan.Ring.{Ring as Slots}
use Rattle.schedule.specs.Graphs.{graph, told, IsChannel}
use Rattle.schedule.specs.Edges.{Orderly, node, edge, edges}
use Rattle.schedule.specs.Plans.{ring_count, HasRing, lead_by, Measured, slots_before, slots_of, no_ring, ring_in, length_in, length_of, lead_in, Ordered, Planned}
use Rattle.schedule.specs.Placements.{ring_at, Places}
use Rattle.schedule.specs.Walking.{BlamesWalk, Weighed}
use Rattle.schedule.specs.Scheduling.{Overfull}
use Rattle.schedule.proofs.Carrying.{in_map, stands, falls_down, settled_down, closed_down, ahead_down}
use Rattle.schedule.proofs.Measuring.{lead_same, measured}
use Rattle.schedule.proofs.Placing.{all_fit}
use Rattle.schedule.proofs.Taking.{slots_same, slots_listed, each_ring}

module _ (rs : List Entry) (o : Orderly rs) where
  blames_down : (old new : List SheetEntry) (c : Cause) → BlamesWalk (plain.graph (edges rs)) (plain.Channel (count Channel rs)) plain.told old new c →
      BlamesWalk (graph rs) IsChannel (told rs) old new c
  blames_down old new c (inl (k, is, t)) = inl (k, is, closed_down rs o old new k t)
  blames_down old new c (inr (k, is, falls, t)) = inr (k, is, falls_down rs o falls, ahead_down rs o old new k t)

  -- a plan's lengths by record are a layout's by node
  length_is : (p : Plan) → p.counts.records.channels ≡ count Channel rs → (lengths : List ℕ) → ((q : ℕ) → q < ring_count rs → length_in p q ≡ get_or lengths q 0) →
      (id : Id) → HasRing rs id → length_of p id ≡ get_or lengths (node rs id) 0
  unfolding node
  length_is p channels lengths same = each_ring rs (λ id. length_of p id ≡ get_or lengths (node rs id) 0) (λ c l. same c (omega arith))
      (λ s l. ap (λ (n : ℕ). length_in p (n + s)) channels ∙ same (count Channel rs + s) (omega arith))

  module _ (l : Layout) (laid : layouts.Laid (count Channel rs) (count Stream rs) (edges rs) l) (settled : Settled (plain.graph (edges rs)) (plain.Channel (count Channel rs))) where
    module _ (lead : ℕ → ℕ) (leads_so : (s : ℕ) → s < count Stream rs → lead s ≡ get_or l.leads (count Channel rs + s) 0) where
      ordered : Ordered rs lead (items l.order)
      unfolding node
      ordered = record {
        each = laid.order.each;
        before = λ r m newest i j li lj read reader.
            let s = stands rs o r m in
            laid.order.before (edge rs r) (in_map (edge rs) r (references [] rs) m)
            (sym (lead_same rs o l.leads laid.leads settled lead leads_so r.read s.read) ∙ newest ∙ ap (λ (z : ℤ). z +ℤ (graph rs).weight r) (lead_same rs o l.leads laid.leads settled lead leads_so r.reader s.reader))
            i j li lj (sym (ap (node rs) read)) (sym (ap (node rs) reader));
      }

      measures : Measured rs lead (λ id. get_or l.lengths (node rs id) 0)
      measures = measured rs o l.leads laid.leads settled lead leads_so l.lengths laid.rings

    -- a plan by the layout is a plan of the table
    planned : (channels streams rules : ℕ) (p : Plan) → channels ≡ count Channel rs → streams ≡ count Stream rs → rules ≡ count Rule rs → Places l channels streams rules p → Planned rs p
    planned channels streams rules p ec es er places =
        let some : channels + streams ≡ ring_count rs = λ i. ec i + es i in
        let rings : (q : ℕ) → q < ring_count rs → ring_in p q ≡ ring_at l.leads l.lengths q = λ q h.
        ap (λ (x : List Slots). get_or x q no_ring) places.rings ∙ get_or-map-range_with_len (ring_at l.leads l.lengths) 0 (channels + streams) q q no_ring (omega arith) (omega arith) in
        let long : (id : Id) → HasRing rs id → length_of p id ≡ get_or l.lengths (node rs id) 0 = λ id h. length_is p channels_are l.lengths (λ q lt. ap (λ r. r.length) (rings q lt)) id h in
        let listed : (q : ℕ) → q < ring_count rs → get_or l.lengths q 0 ≡ length_in p q = λ q h. sym (ap (λ r. r.length) (rings q h)) in
        let slots : slots_before (λ j. get_or l.lengths j 0) (channels + streams) ≡ slots_of rs (length_of p) =
        ap (slots_before (λ j. get_or l.lengths j 0)) some ∙ slots_same (λ j. get_or l.lengths j 0) (length_in p) (ring_count rs) listed ∙ slots_listed rs p channels_are in
        let leads_so : (s : ℕ) → s < count Stream rs → lead_in p s ≡ get_or l.leads (count Channel rs + s) 0 = λ s h.
        ap (λ n. (ring_in p (n + s)).lead) channels_are ∙ ap (λ r. r.lead) (rings (count Channel rs + s) (omega (arith, h))) in
        let known : Measured rs (lead_in p) (λ id. get_or l.lengths (node rs id) 0) = measures (lead_in p) leads_so in
        record {
          falls = falls_down rs o laid.falls;
          settled = settled_down rs o settled;
          counts = places.counts ∙ (λ i. record { records = record { channels = ec i; streams = es i; rules = er i }; slots = slots i });
          measured = record {
            leads = known.leads;
            lengths = λ id h. subst (λ (n : ℕ). Ring (graph rs) (lead_by (lead_in p)) id n) (sym (long id h)) (known.lengths id h);
          };
          bases = λ q h. ap (λ r. r.base) (rings q h) ∙ slots_same (λ j. get_or l.lengths j 0) (length_in p) q (λ j lt. listed j (omega arith));
          rings = ap length places.rings ∙ length-map-range_with_len (ring_at l.leads l.lengths) 0 (channels + streams) ∙ some;
          order = subst (λ (x : Listed ℕ 32). Ordered rs (lead_in p) (items x)) (sym places.order) (ordered (lead_in p) leads_so);
        }
      where
        channels_are : p.counts.records.channels ≡ count Channel rs
        channels_are = ap (λ c. c.records.channels) places.counts ∙ ec

module _ (rs : List Entry) (o : Orderly rs) where
  -- numbers and edges that are those of a table lie within the limits
  pub fits_of : (channels streams : ℕ) (es : List Edge) → channels ≡ count Channel rs → streams ≡ count Stream rs → es ≡ edges rs → Fits channels streams es
  fits_of channels streams es ec es' ee =
      subst (λ (x : List Edge). Fits channels streams x) (sym ee)
      (subst (λ (x : ℕ). Fits channels x (edges rs)) (sym es') (subst (λ (x : ℕ). Fits x (count Stream rs) (edges rs)) (sym ec) (all_fit rs o)))

  -- what is weighed of them is weighed of the table
  module _ (channels streams : ℕ) (es : List Edge) (ec : channels ≡ count Channel rs) (es' : streams ≡ count Stream rs) (ee : es ≡ edges rs) (old new : List SheetEntry) where
    weighed_of : (r : Result Layout Cause) → Weighed channels streams es old new r → Weighed (count Channel rs) (count Stream rs) (edges rs) old new r
    weighed_of r w =
        subst (λ (x : List Edge). Weighed (count Channel rs) (count Stream rs) x old new r) ee
        (subst (λ (x : ℕ). Weighed (count Channel rs) x es old new r) es' (subst (λ (x : ℕ). Weighed x streams es old new r) ec w))

    pub blames_of : (c : Cause) → Weighed channels streams es old new (Err c) → BlamesWalk (graph rs) IsChannel (told rs) old new c
    blames_of c w = blames_down rs o old new c (weighed_of (Err c) w)

    pub planned_of : (rules : ℕ) → rules ≡ count Rule rs → (l : Layout) (p : Plan) → Weighed channels streams es old new (Ok l) → Places l channels streams rules p → (new ≡ old) × Planned rs p
    planned_of rules er l p w places =
        let v : Weighed (count Channel rs) (count Stream rs) (edges rs) old new (Ok l) = weighed_of (Ok l) w in
        (v.0, planned rs o l v.1 v.2 channels streams rules p ec es' er places)

-- where the rings of a plan take too many slots, so do those of the table
pub overfull : (rs : List Entry) (p : Plan) → Planned rs p → 2048 < p.counts.slots → Overfull rs p.counts.slots
overfull rs p k many = record {
  falls = k.falls;
  settled = k.settled;
  takes = record { lead = lead_in p; length = length_of p; measured = k.measured; total = ap (λ c. c.slots) k.counts };
  many = many;
}
