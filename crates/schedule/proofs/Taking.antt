-- The rings of a table in order take one number of slots. Assumes nothing.
use Rattle.std.proofs.Common.{◌≡◌, ℕ, zero, suc, ◌+◌, ◌<◌, List, map, ℤ, pos, ◌+ℤ◌, sum, sym, refl, ap, ◌∙◌, arith}
use Rattle.std.specs.List.{range_with_len}
use Rattle.std.proofs.lemmas.List.FromFn.{length-map-range_with_len, get_or-map-range_with_len, map-range_with_len_more}
use Rattle.std.proofs.lemmas.List.{ext_get_or}
use Rattle.std.proofs.lemmas.List.Sums.{sum_by_push}
use Rattle.syntax.specs.declared.record.Kind.{Kind}
use Rattle.syntax.specs.declared.record.Kind.TheVariants.{Channel, Stream, Rule}
use Rattle.syntax.specs.Entries.{Entry, count}
use Rattle.references.specs.declared.reference.Id.{Id}
use Rattle.walks.proofs.Unique.{lead_one, ring_one}
use Rattle.schedule.specs.declared.plan.Plan.{Plan}
use Rattle.schedule.specs.Graphs.{channel, stream, graph}
use Rattle.schedule.specs.Edges.{InOrder, Orderly, Valid}
use Rattle.schedule.specs.Plans.{ring_count, HasRing, lead_of_kind, lead_by, Measured, slots_before, slots_of, Takes, length_in, length_of}
use Rattle.schedule.proofs.Carrying.{stands}
use Rattle.schedule.proofs.Standing.{orderly}

-- lengths that agree below m add up to one sum
pub slots_same : (f g : ℕ → ℕ) (m : ℕ) → ((q : ℕ) → q < m → f q ≡ g q) → slots_before f m ≡ slots_before g m
slots_same f g m same = ap sum (ext_get_or 0 (map f (range_with_len 0 m)) (map g (range_with_len 0 m)) (length-map-range_with_len f 0 m ∙ sym (length-map-range_with_len g 0 m))
    (λ i l.
    let h : i < m = omega (arith, length-map-range_with_len f 0 m) in
    get_or-map-range_with_len f 0 m i i 0 h (omega arith) ∙ same i h ∙ sym (get_or-map-range_with_len g 0 m i i 0 h (omega arith))))

-- one length more
pub slots_more : (f : ℕ → ℕ) (q : ℕ) → slots_before f (q + 1) ≡ slots_before f q + f q
slots_more f q = ap sum (map-range_with_len_more f 0 q q (omega arith)) ∙ sum_by_push (λ x. x) (map f (range_with_len 0 q)) (f q)

-- the sum of so many and of those that follow
slots_joined : (f : ℕ → ℕ) (m n : ℕ) → slots_before f (m + n) ≡ slots_before f m + slots_before (λ s. f (m + s)) n
slots_joined f m zero = let e : m + zero ≡ m = omega arith in omega (arith, ap (slots_before f) e)
slots_joined f m (suc n) =
    let g : ℕ → ℕ = λ s. f (m + s) in
    let e : m + suc n ≡ m + n + 1 = omega arith in
    let last : suc n ≡ n + 1 = omega arith in
    omega (arith, ap (slots_before f) e, slots_more f (m + n), ap (slots_before g) last, slots_more g n, slots_joined f m n)

-- the rings of a plan together, in the order in which they lie, are those of the channels and of the streams
pub slots_listed : (rs : List Entry) (p : Plan) → p.counts.records.channels ≡ count Channel rs → slots_before (length_in p) (ring_count rs) ≡ slots_of rs (length_of p)
slots_listed rs p channels =
    slots_joined (length_in p) (count Channel rs) (count Stream rs)
    ∙ ap (λ (n : ℕ). slots_before (length_in p) (count Channel rs) + slots_before (λ s. length_in p (n + s)) (count Stream rs)) (sym channels)

-- channels and streams have rings, and nothing else has
pub channel_ring : (rs : List Entry) (c : ℕ) → c < count Channel rs → HasRing rs (channel c)
channel_ring rs c l = record { valid = l; no_rule = λ e. absurd (let q : ◌≡◌ {A = ℕ} 0 1 = cc in omega arith) }

pub stream_ring : (rs : List Entry) (s : ℕ) → s < count Stream rs → HasRing rs (stream s)
stream_ring rs s l = record { valid = l; no_rule = λ e. absurd (let q : ◌≡◌ {A = ℕ} 0 1 = cc in omega arith) }

pub each_ring : (rs : List Entry) (P : Id → Type 0) → ((c : ℕ) → c < count Channel rs → P (channel c)) → ((s : ℕ) → s < count Stream rs → P (stream s)) → (id : Id) → HasRing rs id → P id
each_ring rs P channels streams id h = go id.kind id.number h.valid h.no_rule
  where
    go : (k : Kind) (n : ℕ) → n < count k rs → ¬ (k ≡ Rule) → P (record { kind = k; number = n })
    go Channel n l other = channels n l
    go Stream n l other = streams n l
    go Rule n l other = absurd (other refl)

module _ (rs : List Entry) (o : Orderly rs) (lead lead' : ℕ → ℕ) (length length' : Id → ℕ) (k : Measured rs lead length) (l : Measured rs lead' length') where
  lead_agrees : (id : Id) → Valid rs id → lead_by lead id ≡ lead_by lead' id
  lead_agrees id valid = go id.kind id.number valid
    where
      go : (k' : Kind) (n : ℕ) → n < count k' rs → lead_of_kind lead k' n ≡ lead_of_kind lead' k' n
      go Channel n h = refl
      go Stream n h = lead_one (graph rs) (stream n) (pos (lead n)) (pos (lead' n)) (k.leads n h) (l.leads n h)
      go Rule n h = refl

  length_agrees : (id : Id) → HasRing rs id → length id ≡ length' id
  length_agrees id h = ring_one (graph rs) (lead_by lead) (lead_by lead') id (length id) (length' id) (lead_agrees id h.valid)
      (λ r m. ap (λ (z : ℤ). z +ℤ (graph rs).weight r) (lead_agrees r.reader (stands rs o r m).reader))
      (k.lengths id h) (l.lengths id h)

  slots_agree : slots_of rs length ≡ slots_of rs length'
  slots_agree =
      let channels = slots_same (λ c. length (channel c)) (λ c. length' (channel c)) (count Channel rs) (λ c h. length_agrees (channel c) (channel_ring rs c h)) in
      let streams = slots_same (λ s. length (stream s)) (λ s. length' (stream s)) (count Stream rs) (λ s h. length_agrees (stream s) (stream_ring rs s h)) in
      λ i. channels i + streams i

pub takes_one : (rs : List Entry) → InOrder rs → (z z' : ℕ) → Takes rs z → Takes rs z' → z ≡ z'
takes_one rs o z z' t u = t.total ∙ slots_agree rs (orderly rs o) t.lead u.lead t.length u.length t.measured u.measured ∙ sym u.total
