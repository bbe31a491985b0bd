-- The rings of a table that the check accepts fit. Assumes nothing.
use Rattle.std.proofs.Common.{◌≡◌, ℕ, zero, suc, ◌+◌, ◌-◌, ◌<◌, ◌≤◌, List, [], pos, refl, ap, inl, inr, arith}
use Rattle.std.proofs.ByRecursion.{All-weaker}
use Rattle.std.proofs.lemmas.Bool.{cases_lt}
use Rattle.std.proofs.lemmas.Int.{ints}
use Rattle.syntax.specs.declared.record.Kind.{Kind}
use Rattle.syntax.specs.declared.record.Kind.TheVariants.{Channel, Stream, Rule}
use Rattle.syntax.specs.Entries.{Entry, count}
use Rattle.names.specs.declared.uses.Name.{Name}
use Rattle.names.specs.declared.uses.Name.TheVariants as name
use Rattle.names.specs.Uses.{uses}
use Rattle.references.specs.declared.reference.Id.{Id}
use Rattle.references.specs.References.{reads, refer_name, references}
use Rattle.walks.specs.Walks.{In}
use Rattle.lists.specs.Lists.{items}
use Rattle.schedule.specs.declared.plan.Plan.{Plan}
use Rattle.schedule.specs.Graphs.{channel, stream, openings}
use Rattle.schedule.specs.Plans.{HasRing, ring_count, slots_before, ring_in, length_in, lead_in, lead_of}
use Rattle.schedule.proofs.Taking.{slots_more, slots_listed, channel_ring, stream_ring}
use Rattle.equations.specs.Equations.{equation_of, opening_of}
use Rattle.equations.specs.Alarms.{Rule as RuleOf, rules}
use Rattle.equations.specs.Laws.{WellPlanned}
use Rattle.equations.proofs.Greatest.{greatest, most}
use Rattle.equations.proofs.Listing.{rule, ReadsAs, Listed, body_listed, rules_listed, openings_same, openings_none}
use Rattle.equations.proofs.Ranking.{rank_of, order_of}
use Rattle.equations.proofs.One.{exists}
use Rattle.equations.proofs.Sound.{Reads}
use Rattle.equations.proofs.Sounding.{served, rank_in, ranks, rule_reads, stream_reads, leads, sound, on_the_past}
use Rattle.rings.specs.Systems.{System, system_of}
use Rattle.rings.specs.Laws.{Laws}
use Rattle.rings.proofs.Keeping.{lawful}
use Rattle.rings.proofs.Fitting.{Keeps, AllFit, RuleFits, InSomeRing, Fitting}

module _ (rs : List Entry) (p : Plan) (w : WellPlanned rs p) where
  abbrev S : System
  S = system_of rs p

  channels_are : p.counts.records.channels ≡ count Channel rs
  channels_are = ap (λ c. c.records.channels) w.planned.counts

  -- ---- what is read is still in its ring
  name_keeps : (id : Id) (lead opening : ℕ) → lead_of p id ≡ pos lead → openings rs id ≡ opening → (n : Name) → In (refer_name id n) (references [] rs) → Keeps S lead opening n
  name_keeps id lead opening leading counted (name.Channel c) m =
      omega (arith, ints, ((served rs p w).finds (reads id Channel c 0) m).kept, leading, counted)
  name_keeps id lead opening leading counted (name.Stream q d) m =
      omega (arith, ints, ((served rs p w).finds (reads id Stream q d) m).kept, leading, counted)

  body_fits : (s : ℕ) → s < count Stream rs → AllFit S (rank_in rs p w) (lead_in p s) (opening_of rs s) (rank_in rs p w s) (equation_of rs s).body
  body_fits s l =
      All-weaker _ _ (λ u m. (stream_reads rs p w s l u.name m, name_keeps (stream s) (lead_in p s) (opening_of rs s) refl (openings_same rs s l) u.name m))
      (uses (equation_of rs s).body) (body_listed rs s l)

  rule_name_fits : (n : ℕ) (m : Name) → In (refer_name (rule n) m) (references [] rs) → Reads rs (lead_in p) (rank_in rs p w) 0 0 (count Stream rs) m × Keeps S 0 0 m
  rule_name_fits n m listed = (rule_reads rs p w n m listed, name_keeps (rule n) 0 0 refl (openings_none rs n) m listed)

  one_rule : (r : RuleOf) → ReadsAs (Listed rs) r → RuleFits S (rank_in rs p w) r
  one_rule r listed = record {
    guard = All-weaker _ _ (λ u. rule_name_fits listed.number u.name) (uses r.guard) listed.guard;
    arguments = All-weaker _ _ (λ e. All-weaker _ _ (λ u. rule_name_fits listed.number u.name) (uses e)) r.arguments listed.arguments;
  }

  -- ---- rings by their number: the channels' first, and then the streams'
  number : Kind → ℕ → ℕ
  number Channel n = n
  number Stream n = p.counts.records.channels + n
  number Rule n = 0

  -- the ring of a record is one in the list
  record InList (k : Kind) (n : ℕ) : Type 0 where
    small : number k n < ring_count rs
    base : (S.base record { kind = k; number = n }) ≡ (ring_in p (number k n)).base
    size : (S.size record { kind = k; number = n }) ≡ length_in p (number k n)

  in_list : (k : Kind) (n : ℕ) → HasRing rs (record { kind = k; number = n }) → InList k n
  unfolding number
  in_list Channel n h = record { small = omega (arith, h.valid); base = refl; size = refl }
  in_list Stream n h = record { small = omega (arith, h.valid, channels_are); base = refl; size = refl }
  in_list Rule n h = absurd (h.no_rule refl)

  one_number : (j k : Kind) (m n : ℕ) → HasRing rs (record { kind = j; number = m }) → HasRing rs (record { kind = k; number = n }) → number j m ≡ number k n →
      ◌≡◌ {A = Id} (record { kind = j; number = m }) (record { kind = k; number = n })
  unfolding number
  one_number Channel Channel m n h g e = ap channel e
  one_number Channel Stream m n h g e = absurd (omega (arith, h.valid, channels_are, e))
  one_number Stream Channel m n h g e = absurd (omega (arith, g.valid, channels_are, e))
  one_number Stream Stream m n h g e = ap stream (omega (arith, e))
  one_number Rule k m n h g e = absurd (h.no_rule refl)
  one_number Channel Rule m n h g e = absurd (g.no_rule refl)
  one_number Stream Rule m n h g e = absurd (g.no_rule refl)

  -- ---- rings lie one after another
  after : (r k : ℕ) → r + 1 + k < ring_count rs → (ring_in p r).base + length_in p r ≤ (ring_in p (r + 1 + k)).base
  after r zero h =
      omega (arith, (served rs p w).next r (omega (arith, h)), ap (λ (q : ℕ). (ring_in p q).base) (let e : r + 1 + zero ≡ r + 1 = omega arith in e))
  after r (suc k) h =
      omega (
        arith,
        after r k (omega (arith, h)),
        (served rs p w).next (r + 1 + k) (omega (arith, h)),
        ap (λ (q : ℕ). (ring_in p q).base) (let e : r + 1 + suc k ≡ r + 1 + k + 1 = omega arith in e),
      )

  later : (r q : ℕ) → r < q → q < ring_count rs → (ring_in p r).base + length_in p r ≤ (ring_in p q).base
  later r q l h =
      omega (arith, after r (q - (r + 1)) (omega (arith, l, h)), ap (λ (k : ℕ). (ring_in p k).base) (let e : r + 1 + (q - (r + 1)) ≡ q = omega (arith, l) in e))

  apart : (a b : Id) → HasRing rs a → HasRing rs b → ¬ (a ≡ b) → (i j : ℕ) → i < S.size a → j < S.size b → ¬ (S.base a + i ≡ S.base b + j)
  apart a b ha hb ne i j hi hj e =
      let x = in_list a.kind a.number ha in
      let y = in_list b.kind b.number hb in
      elim (cases_lt (number a.kind a.number) (number b.kind b.number)) [
        | inl l ↦ omega (arith, later (number a.kind a.number) (number b.kind b.number) l y.small, x.base, x.size, y.base, y.size, hi, e)
        | inr l ↦ elim (cases_lt (number b.kind b.number) (number a.kind a.number)) [
          | inl k ↦ omega (arith, later (number b.kind b.number) (number a.kind a.number) k x.small, x.base, x.size, y.base, y.size, hj, e)
          | inr k ↦ ne (one_number a.kind b.kind a.number b.number ha hb (omega (arith, l, k)))
        ]
      ]

  -- every slot is one of a ring's
  ring_before : (m k : ℕ) → k < slots_before (length_in p) m → (q : ℕ) × (q < m) × (slots_before (length_in p) q ≤ k) × (k < slots_before (length_in p) q + length_in p q)
  ring_before zero k h = absurd (omega (arith, h))
  ring_before (suc m) k h = elim (cases_lt k (slots_before (length_in p) m)) [
    | inl below ↦ let (q, l, low, high) = ring_before m k below in (q, omega (arith, l), low, high)
    | inr past ↦
        let e : m + 1 ≡ suc m = omega arith in
        (m, omega arith, past, omega (arith, h, slots_more (length_in p) m, ap (slots_before (length_in p)) e))
  ]

  in_some_ring : (k : ℕ) → k < S.slots → InSomeRing S k
  in_some_ring k h =
      let (q, l, low, high) = ring_before (ring_count rs) k (omega (arith, h, slots_listed rs p channels_are, ap (λ c. c.slots) w.planned.counts)) in
      let base = w.planned.bases q l in
      elim (cases_lt q (count Channel rs)) [
        | inl c ↦ record { id = channel q; ring = channel_ring rs q c; at = k - slots_before (length_in p) q; small = omega (arith, low, high); is = omega (arith, low, base) }
        | inr s ↦
            let e : p.counts.records.channels + (q - count Channel rs) ≡ q = omega (arith, s, channels_are) in
            record {
              id = stream (q - count Channel rs);
              ring = stream_ring rs (q - count Channel rs) (omega (arith, l, s));
              at = k - slots_before (length_in p) q;
              small = omega (arith, low, high, ap (length_in p) e);
              is = omega (arith, low, base, ap (λ (r : ℕ). (ring_in p r).base) e);
            }
      ]

  pub fitting : (top : ℕ) → ((s : ℕ) → s < count Stream rs → lead_in p s ≤ top) → Fitting S (items p.order) (rank_in rs p w) top
  fitting top most = record {
    reads = body_fits;
    rules = All-weaker _ _ one_rule (rules rs) (rules_listed rs);
    most = most;
    some = λ id h. let x = in_list id.kind id.number h in omega (arith, x.size, (served rs p w).some (number id.kind id.number) x.small);
    within = λ id h. let x = in_list id.kind id.number h in omega (arith, x.base, x.size, (served rs p w).within (number id.kind id.number) x.small);
    apart = apart;
    covered = in_some_ring;
    ordered = (served rs p w).order.each.within;
    rank_of = rank_of (count Stream rs) (items p.order) (served rs p w).order.each;
    ranked = ranks rs p w;
    order_of = order_of (count Stream rs) (items p.order) (served rs p w).order.each;
  }

pub laws : Laws
laws rs p w =
    let top = greatest (lead_in p) (count Stream rs) in
    lawful (system_of rs p) (items p.order) (rank_in rs p w) top (fitting rs p w top (most (lead_in p) (count Stream rs)))
    ((on_the_past rs p w).values (lead_in p) (leads rs p w))
    (λ x. exists rs (lead_in p) (rank_in rs p w) top (sound rs p w top (most (lead_in p) (count Stream rs))) x 0 (λ t c h. absurd (omega (arith, h))))
