-- Opening, storing samples and judging each make one memory of what was there, and leave the slots past the rings. Assumes nothing.
use Rattle.std.proofs.Common.{refl, ◌≡◌, ℕ, zero, suc, ◌+◌, ◌-◌, ◌%◌, ◌<◌, ◌≤◌, List, get_or, pos, sym, ap, ◌∙◌, inl, inr, arith, mod-lt}
use Rattle.std.proofs.ByRecursion.{All-weaker}
use Rattle.std.proofs.lemmas.Bool.{cases_lt, cases_eq}
use Rattle.std.proofs.lemmas.List.{ext_get_or}
use Rattle.values.specs.declared.value.Value.{Value}
use Rattle.values.specs.Values.{wrap, word}
use Rattle.syntax.specs.declared.record.Kind.{Kind}
use Rattle.syntax.specs.declared.record.Kind.TheVariants.{Channel, Stream, Rule}
use Rattle.syntax.specs.Entries.{count}
use Rattle.names.specs.declared.uses.Name.{Name}
use Rattle.names.specs.declared.uses.Name.TheVariants as name
use Rattle.names.specs.Uses.{uses}
use Rattle.references.specs.declared.reference.Id.{Id}
use Rattle.schedule.specs.Graphs.{channel, stream}
use Rattle.schedule.specs.Plans.{HasRing}
use Rattle.schedule.proofs.Taking.{channel_ring, stream_ring}
use Rattle.evaluation.specs.Meaning.{Samples, Values, Same}
use Rattle.equations.specs.Equations.{channel_type, equation_of, opening_of, Meets}
use Rattle.equations.proofs.Reading.{same_equation}
use Rattle.equations.proofs.Sound.{Reads}
use Rattle.rings.specs.Systems.{System, slot}
use Rattle.rings.specs.Memory.{samples_in, values_in}
use Rattle.rings.specs.Calls.{OpensRings, StoresSamples, Judges}
use Rattle.rings.proofs.Fitting.{Keeps, Fitting}
use Rattle.rings.proofs.Ring.{slots_apart, one_ring}
use Rattle.rings.proofs.Ticking.{channel_apart, stream_apart}

-- k is one of f 0 to f (n - 1), or none of them
data Among (f : ℕ → ℕ) (n k : ℕ) : Type 0 where
  one : (s : ℕ) → s < n → k ≡ f s → Among f n k
  none : ((s : ℕ) → s < n → ¬ (k ≡ f s)) → Among f n k

among : (f : ℕ → ℕ) (n k : ℕ) → Among f n k
among f zero k = none (λ s l e. omega (arith, l))
among f (suc n) k = elim (cases_eq k (f n)) [
  | inl e ↦ one n (omega arith) e
  | inr ne ↦ elim (among f n k) [
    | one s l e ↦ one s (omega (arith, l)) e
    | none h ↦ none (λ s l e. elim (cases_eq s n) [ inl is ↦ ne (e ∙ ap f is) | inr other ↦ h s (omega (arith, l, other)) e ])
  ]
]

module _ (S : System) (order : List ℕ) (rank : ℕ → ℕ) (top : ℕ) (fitting : Fitting S order rank top) (n : ℕ) (old a b : List ℕ) (ja : Judges S n old a) (jb : Judges S n old b) where
  abbrev streams : ℕ
  streams = count Stream S.records

  -- where stream s has its newest value
  abbrev place : ℕ → ℕ
  place s = slot S (stream s) (n + S.lead s)

  -- elsewhere both are as before
  elsewhere : (k : ℕ) → ((s : ℕ) → s < streams → ¬ (k ≡ place s)) → get_or a k 0 ≡ get_or b k 0
  elsewhere k ne = ja.others k ne ∙ sym (jb.others k ne)

  module _ (s : ℕ) (l : s < streams) (lower : (q : ℕ) → q < streams → rank q < rank s → get_or a (place q) 0 ≡ get_or b (place q) 0) where
    abbrev p : ℕ
    p = n + S.lead s - opening_of S.records s

    one_name : opening_of S.records s ≤ n + S.lead s → (m : Name) →
        Reads S.records S.lead rank (S.lead s) (opening_of S.records s) (rank s) m × Keeps S (S.lead s) (opening_of S.records s) m → Same (samples_in S a) (values_in S a) p (samples_in S b) (values_in S b) p m
    one_name h (name.Channel c) f =
        ap (λ (w : ℕ). wrap (channel_type S.records c) (pos w))
        (elsewhere (slot S (channel c) p) (λ q lq. channel_apart S order rank top fitting c q (p % S.size (channel c)) (n + S.lead q) f.0.known lq (mod-lt p (fitting.some (channel c) (channel_ring S.records c f.0.known)))))
    one_name h (name.Stream q d) f = ap (λ (w : ℕ). wrap (equation_of S.records q).ty (pos w)) (elim (cases_eq (p + d) (n + S.lead q)) [
      | inl e ↦
          ap (λ (i : ℕ). get_or a (slot S (stream q) i) 0) e ∙ lower q f.0.known (f.0.before (omega (arith, e, h))) ∙ ap (λ (i : ℕ). get_or b (slot S (stream q) i) 0) (sym e)
      | inr ne ↦ elsewhere (slot S (stream q) (p + d)) (λ t lt e. elim (cases_eq q t) [
        | inl is ↦
            let here : slot S (stream q) (p + d) ≡ place q = e ∙ ap place (sym is) in
            ne (slots_apart (S.size (stream q)) (p + d) (n + S.lead q) (omega (arith, h, f.0.ahead)) (omega (arith, h, f.1)) (omega (arith, here)))
        | inr other ↦ stream_apart S order rank top fitting q t ((p + d) % S.size (stream q)) (n + S.lead t) f.0.known lt (mod-lt (p + d) (fitting.some (stream q) (stream_ring S.records q f.0.known))) other e
      ])
    ])

    at_place : get_or a (place s) 0 ≡ get_or b (place s) 0
    at_place =
        ja.stored s l ∙
        ap word (same_equation S.records (samples_in S a) (values_in S a) (samples_in S b) (values_in S b) s (n + S.lead s)
        (λ h. All-weaker _ _ (λ u. one_name h u.name) (uses (equation_of S.records s).body) (fitting.reads s l))) ∙
        sym (jb.stored s l)

  at_places : (f s : ℕ) → s < streams → rank s < f → get_or a (place s) 0 ≡ get_or b (place s) 0
  at_places zero s l h = absurd (omega (arith, h))
  at_places (suc f) s l h = at_place s l (λ q lq r. at_places f q lq (omega (arith, r, h)))

  pub one_memory : a ≡ b
  one_memory = ext_get_or 0 a b (ja.long ∙ sym jb.long) (λ k _. elim (among place streams k) [
    | one s l e ↦ ap (λ (i : ℕ). get_or a i 0) e ∙ at_places (suc (rank s)) s l (omega arith) ∙ ap (λ (i : ℕ). get_or b i 0) (sym e)
    | none h ↦ elsewhere k h
  ])

-- of rings that hold one set, opened rings are one memory
module _ (S : System) (order : List ℕ) (rank : ℕ → ℕ) (top : ℕ) (fitting : Fitting S order rank top) (x : Samples) (v : Values) (meets : Meets S.records S.lead x 0 v)
    (old a b : List ℕ) (oa : OpensRings S old a) (ob : OpensRings S old b)
  where
    same_ring : (k : Kind) (n : ℕ) → HasRing S.records (record { kind = k; number = n }) → (j : ℕ) → j < S.size (record { kind = k; number = n }) →
        get_or a (S.base (record { kind = k; number = n }) + j) 0 ≡ get_or b (S.base (record { kind = k; number = n }) + j) 0
    same_ring Channel n h = one_ring S (channel n) (λ t. word (x t n)) 0 a b ((oa.held x v meets).samples n h.valid) ((ob.held x v meets).samples n h.valid)
    same_ring Stream n h = one_ring S (stream n) (λ i. word (v n i)) (0 + S.lead n) a b ((oa.held x v meets).values n h.valid) ((ob.held x v meets).values n h.valid)
    same_ring Rule n h = absurd (h.no_rule refl)

    pub one_opening : a ≡ b
    one_opening = ext_get_or 0 a b (oa.long ∙ sym ob.long) (λ k _. elim (cases_lt k S.slots) [
      | inl l ↦
          let c = fitting.covered k l in
          ap (λ (i : ℕ). get_or a i 0) c.is ∙ same_ring c.id.kind c.id.number c.ring c.at c.small ∙ ap (λ (i : ℕ). get_or b i 0) (sym c.is)
      | inr l ↦ oa.past k l ∙ sym (ob.past k l)
    ])

pub one_storing : (S : System) (n : ℕ) (row : ℕ → Value) (old a b : List ℕ) → StoresSamples S n row old a → StoresSamples S n row old b → a ≡ b
one_storing S n row old a b sa sb = ext_get_or 0 a b (sa.long ∙ sym sb.long) (λ k _. elim (among (λ c. slot S (channel c) n) (count Channel S.records) k) [
  | one c l e ↦ ap (λ (i : ℕ). get_or a i 0) e ∙ sa.stored c l ∙ sym (sb.stored c l) ∙ ap (λ (i : ℕ). get_or b i 0) (sym e)
  | none h ↦ sa.others k h ∙ sym (sb.others k h)
])

-- a slot past the rings is none of a ring's
module _ (S : System) (order : List ℕ) (rank : ℕ → ℕ) (top : ℕ) (fitting : Fitting S order rank top) where
  outside : (id : Id) (i k : ℕ) → HasRing S.records id → S.slots ≤ k → ¬ (k ≡ slot S id i)
  outside id i k h l e = omega (arith, l, e, fitting.within id h, mod-lt i (fitting.some id h))

  pub past_stored : (n : ℕ) (row : ℕ → Value) (old new : List ℕ) → StoresSamples S n row old new → (k : ℕ) → S.slots ≤ k → get_or new k 0 ≡ get_or old k 0
  past_stored n row old new s k l = s.others k (λ c lc. outside (channel c) n k (channel_ring S.records c lc) l)

  pub past_judged : (n : ℕ) (old new : List ℕ) → Judges S n old new → (k : ℕ) → S.slots ≤ k → get_or new k 0 ≡ get_or old k 0
  past_judged n old new j k l = j.others k (λ s ls. outside (stream s) (n + S.lead s) k (stream_ring S.records s ls) l)
