-- One tick, as a relation: what it makes of rings that hold the values of the ticks before it. Assumes nothing.
use Rattle.std.proofs.Common.{◌≡◌, ℕ, zero, suc, ◌+◌, ◌-◌, ◌%◌, ◌<◌, ◌≤◌, List, length, get_or, pos, refl, sym, ap, ◌∙◌, inl, inr, arith, mod-lt}
use Rattle.std.proofs.ByRecursion.{All-weaker}
use Rattle.std.proofs.lemmas.Bool.{cases_lt, cases_eq}
use Rattle.values.specs.Values.{wrap, word, HasType}
use Rattle.syntax.specs.declared.record.Kind.TheVariants.{Channel, Stream}
use Rattle.syntax.specs.Entries.{count}
use Rattle.names.specs.declared.uses.Name.{Name}
use Rattle.names.specs.declared.uses.Name.TheVariants as name
use Rattle.names.specs.Uses.{uses}
use Rattle.references.specs.declared.reference.Id.{Id}
use Rattle.schedule.specs.Graphs.{channel, stream}
use Rattle.schedule.proofs.Taking.{channel_ring, stream_ring}
use Rattle.evaluation.specs.Meaning.{Samples, Values, Same}
use Rattle.equations.specs.Equations.{channel_type, equation_of, opening_of, by_equation, TypedSamples}
use Rattle.equations.proofs.Reading.{same_equation}
use Rattle.equations.proofs.Sound.{Reads}
use Rattle.rings.specs.Systems.{System, slot}
use Rattle.rings.specs.Memory.{samples_in, values_in, RingHolds}
use Rattle.rings.proofs.Fitting.{Keeps, Fitting}
use Rattle.rings.proofs.Ring.{slots_apart, back, recounted, unchanged, grown, read_back}

-- each stream that has an index at the tick u, counted from the first opening tick, has there what its equation gives by the slots as they are afterwards
pub record Ticks (S : System) (top u : ℕ) (old new : List ℕ) : Type 0 where
  pub stored : (s : ℕ) → s < count Stream S.records → top ≤ u + S.lead s →
      get_or new (slot S (stream s) (u + S.lead s - top)) 0 ≡ word (by_equation S.records (samples_in S new) (values_in S new) s (u + S.lead s - top))
  pub others : (k : ℕ) → ((s : ℕ) → s < count Stream S.records → top ≤ u + S.lead s → ¬ (k ≡ slot S (stream s) (u + S.lead s - top))) → get_or new k 0 ≡ get_or old k 0
  pub long : length new ≡ length old

kinds_apart : (c s : ℕ) → ¬ (channel c ≡ stream s)
kinds_apart c s e = let k : Channel ≡ Stream = ap (λ (id : Id). id.kind) e in cc

module _ (S : System) (order : List ℕ) (rank : ℕ → ℕ) (top : ℕ) (fitting : Fitting S order rank top) where
  -- where a channel's ring and a stream's lie, and two streams', no slot is the same
  pub channel_apart : (c s j i : ℕ) → c < count Channel S.records → s < count Stream S.records → j < S.size (channel c) → ¬ (S.base (channel c) + j ≡ slot S (stream s) i)
  channel_apart c s j i lc ls h = fitting.apart (channel c) (stream s) (channel_ring S.records c lc) (stream_ring S.records s ls) (kinds_apart c s) j (i % S.size (stream s)) h (mod-lt i (fitting.some (stream s) (stream_ring S.records s ls)))

  pub stream_apart : (q s j i : ℕ) → q < count Stream S.records → s < count Stream S.records → j < S.size (stream q) → ¬ (q ≡ s) → ¬ (S.base (stream q) + j ≡ slot S (stream s) i)
  stream_apart q s j i lq ls h ne =
      fitting.apart (stream q) (stream s) (stream_ring S.records q lq) (stream_ring S.records s ls) (λ e. ne (ap (λ (id : Id). id.number) e)) j (i % S.size (stream s)) h (mod-lt i (fitting.some (stream s) (stream_ring S.records s ls)))

  module _ (u : ℕ) (old new : List ℕ) (ticks : Ticks S top u old new) where
    channel_stays : (c j : ℕ) → c < count Channel S.records → j < S.size (channel c) → get_or new (S.base (channel c) + j) 0 ≡ get_or old (S.base (channel c) + j) 0
    channel_stays c j lc h = ticks.others (S.base (channel c) + j) (λ s ls t. channel_apart c s j (u + S.lead s - top) lc ls h)

    stream_stays : (q j : ℕ) → q < count Stream S.records → j < S.size (stream q) → (top ≤ u + S.lead q → ¬ (j ≡ (u + S.lead q - top) % S.size (stream q))) →
        get_or new (S.base (stream q) + j) 0 ≡ get_or old (S.base (stream q) + j) 0
    stream_stays q j lq h ne = ticks.others (S.base (stream q) + j) (λ s ls t e. elim (cases_eq q s) [
      | inl same ↦ ne (omega (arith, t, ap (S.lead) same)) (omega (arith, e ∙ ap (λ (y : ℕ). slot S (stream y) (u + S.lead y - top)) (sym same)))
      | inr apart ↦ stream_apart q s j (u + S.lead s - top) lq ls h apart e
    ])

    module _ (x : Samples) (v : Values) (m : ℕ) (em : m ≡ suc u - top) (typed : TypedSamples S.records x m)
        (met : (s i : ℕ) → s < count Stream S.records → i < suc u + S.lead s - top → HasType (equation_of S.records s).ty (v s i) × (v s i ≡ by_equation S.records x v s i))
        (samples : (c : ℕ) → c < count Channel S.records → RingHolds S (channel c) (λ t. word (x t c)) m old)
        (values : (s : ℕ) → s < count Stream S.records → RingHolds S (stream s) (λ i. word (v s i)) (u + S.lead s - top) old)
      where
        pub samples_stay : (c : ℕ) → c < count Channel S.records → RingHolds S (channel c) (λ t. word (x t c)) m new
        samples_stay c l = unchanged S (channel c) (λ t. word (x t c)) m old new (fitting.some (channel c) (channel_ring S.records c l)) (samples c l) (λ j h. channel_stays c j l h)

        abbrev Newest : ℕ → Type 0
        Newest s = top ≤ u + S.lead s → get_or new (slot S (stream s) (u + S.lead s - top)) 0 ≡ word (v s (u + S.lead s - top))

        -- a stream's newest value is there, where those of lower rank are
        module _ (s : ℕ) (l : s < count Stream S.records) (t : top ≤ u + S.lead s) (lower : (q : ℕ) → q < count Stream S.records → rank q < rank s → Newest q) where
          abbrev p : ℕ
          p = u + S.lead s - top - opening_of S.records s

          one : opening_of S.records s ≤ u + S.lead s - top → (n : Name) →
              Reads S.records S.lead rank (S.lead s) (opening_of S.records s) (rank s) n × Keeps S (S.lead s) (opening_of S.records s) n → Same (samples_in S new) (values_in S new) p x v p n
          one h (name.Channel c) f =
              read_back S (channel c) (λ t. word (x t c)) m new (channel_type S.records c) (x p c) p (samples_stay c f.0.known) refl
              (typed p c (omega (arith, em, h, t, f.0.past)) f.0.known) (omega (arith, em, h, t, f.0.past)) (omega (arith, em, h, t, f.1))
          one h (name.Stream q d) f =
              let has = (met q (p + d) f.0.known (omega (arith, h, t, f.0.ahead))).0 in
              let ty = (equation_of S.records q).ty in
              elim (cases_eq (S.lead s + d) (S.lead q + opening_of S.records s)) [
                | inl e ↦
                    let is : p + d ≡ u + S.lead q - top = omega (arith, e, h, t) in
                    ap (λ (w : ℕ). wrap ty (pos w))
                    (ap (λ (y : ℕ). get_or new (slot S (stream q) y) 0) is ∙ lower q f.0.known (f.0.before e) (omega (arith, e, h, t)) ∙ ap (λ (y : ℕ). word (v q y)) (sym is)) ∙
                    back ty (v q (p + d)) has
                | inr ne ↦
                    let below : p + d < u + S.lead q - top = omega (arith, ne, h, t, f.0.ahead) in
                    let near : u + S.lead q - top < p + d + S.size (stream q) = omega (arith, h, t, f.1) in
                    ap (λ (w : ℕ). wrap ty (pos w))
                    (stream_stays q ((p + d) % S.size (stream q)) f.0.known (mod-lt (p + d) (fitting.some (stream q) (stream_ring S.records q f.0.known)))
                    (λ t' e. omega (arith, slots_apart (S.size (stream q)) (p + d) (u + S.lead q - top) (omega (arith, below)) near e, below))) ∙
                    read_back S (stream q) (λ i. word (v q i)) (u + S.lead q - top) old ty (v q (p + d)) (p + d) (values q f.0.known) refl has below (omega (arith, near))
              ]

          newest_by : get_or new (slot S (stream s) (u + S.lead s - top)) 0 ≡ word (v s (u + S.lead s - top))
          newest_by =
              ticks.stored s l t ∙
              ap word (same_equation S.records (samples_in S new) (values_in S new) x v s (u + S.lead s - top)
              (λ h. All-weaker _ _ (λ n. one h n.name) (uses (equation_of S.records s).body) (fitting.reads s l)) ∙
              sym (met s (u + S.lead s - top) l (omega (arith, t))).1)

        newest : (f s : ℕ) → s < count Stream S.records → rank s < f → Newest s
        newest zero s l h t = absurd (omega (arith, h))
        newest (suc f) s l h t = newest_by s l t (λ q lq r. newest f q lq (omega (arith, r, h)))

        pub values_grow : (s : ℕ) → s < count Stream S.records → RingHolds S (stream s) (λ i. word (v s i)) (suc u + S.lead s - top) new
        values_grow s l = elim (cases_lt (u + S.lead s) top) [
          | inl below ↦
              recounted S (stream s) (λ i. word (v s i)) (u + S.lead s - top) (suc u + S.lead s - top) new (omega (arith, below))
              (unchanged S (stream s) (λ i. word (v s i)) (u + S.lead s - top) old new (fitting.some (stream s) (stream_ring S.records s l)) (values s l)
              (λ j h. stream_stays s j l h (λ t e. omega (arith, t, below))))
          | inr t ↦
              recounted S (stream s) (λ i. word (v s i)) (suc (u + S.lead s - top)) (suc u + S.lead s - top) new (omega (arith, t))
              (grown S (stream s) (λ i. word (v s i)) (u + S.lead s - top) old new (fitting.some (stream s) (stream_ring S.records s l)) (values s l) (newest (suc (rank s)) s l (omega arith) t)
              (λ j h ne. stream_stays s j l h (λ _. ne)))
        ]
