-- What the opening ticks make of the memory. Assumes nothing.
use Rattle.std.proofs.Common.{◌≡◌, ℕ, zero, suc, ◌+◌, ◌-◌, ◌<◌, ◌≤◌, List, ◌++◌, length, drop, get_or, replicate, ap, ◌∙◌, arith, mod-lt}
use Rattle.std.proofs.lemmas.List.{length-append, length-replicate, length-drop, get_or_append_left, get_or-append_right, get_or-replicate, get_or-drop}
use Rattle.values.specs.Values.{HasType, word}
use Rattle.syntax.specs.declared.record.Kind.TheVariants.{Channel, Stream}
use Rattle.syntax.specs.Entries.{count}
use Rattle.references.specs.declared.reference.Id.{Id}
use Rattle.schedule.specs.Graphs.{channel, stream}
use Rattle.schedule.specs.Plans.{HasRing}
use Rattle.schedule.proofs.Taking.{channel_ring, stream_ring}
use Rattle.evaluation.specs.Meaning.{Samples, Values}
use Rattle.equations.specs.Equations.{equation_of, by_equation, Meets}
use Rattle.rings.specs.Systems.{System}
use Rattle.rings.specs.Memory.{RingHolds, RingsHold}
use Rattle.rings.specs.Calls.{OpensRings}
use Rattle.rings.specs.Steps.{worked_through, opened}
use Rattle.rings.proofs.Fitting.{Fitting}
use Rattle.rings.proofs.Ring.{recounted}
use Rattle.rings.proofs.Ticking.{Ticks, samples_stay, values_grow}
use Rattle.rings.proofs.Stepping.{worked_ticks}

-- a list with its first n entries cleared
module _ (mem : List ℕ) (n : ℕ) where
  abbrev cleared : List ℕ
  cleared = replicate n 0 ++ drop n mem

  cleared_long : n ≤ length mem → length cleared ≡ length mem
  cleared_long l = simp (length-append, length-replicate, length-drop) (omega arith)

  cleared_below : (k : ℕ) → k < n → get_or cleared k 0 ≡ 0
  cleared_below k h = get_or_append_left (replicate n 0) (drop n mem) 0 k (simp length-replicate h) ∙ get_or-replicate n k 0 0 h

  cleared_past : (k : ℕ) → n ≤ k → get_or cleared k 0 ≡ get_or mem k 0
  cleared_past k h =
      let e : n + (k - n) ≡ k = omega arith in
      get_or-append_right (replicate n 0) (drop n mem) n k 0 (length-replicate n 0) h ∙ get_or-drop n mem (k - n) 0 ∙ ap (λ (x : ℕ). get_or mem x 0) e

module _ (S : System) (order : List ℕ) (rank : ℕ → ℕ) (top : ℕ) (fitting : Fitting S order rank top) (mem : List ℕ) (room : S.slots ≤ length mem) where
  abbrev after : ℕ → List ℕ
  after u = worked_through S order top (cleared mem S.slots) u

  one_tick : (u : ℕ) → S.slots ≤ length (after u) → Ticks S top u (after u) (after (suc u))
  one_tick u h = worked_ticks S order rank top fitting u (after u) h

  long : (u : ℕ) → length (after u) ≡ length mem
  long zero = cleared_long mem S.slots room
  long (suc u) = let e = long u in (one_tick u (omega (arith, e, room))).long ∙ e

  has_room : (u : ℕ) → S.slots ≤ length (after u)
  has_room u = omega (arith, long u, room)

  past : (u k : ℕ) → S.slots ≤ k → get_or (after u) k 0 ≡ get_or mem k 0
  past zero k h = cleared_past mem S.slots k h
  past (suc u) k h =
      (one_tick u (has_room u)).others k (λ s l t e. omega (arith, h, e, fitting.within (stream s) (stream_ring S.records s l), mod-lt (u + S.lead s - top) (fitting.some (stream s) (stream_ring S.records s l)))) ∙ past u k h

  -- cleared rings hold nothing
  blank : (id : Id) (words : ℕ → ℕ) → HasRing S.records id → RingHolds S id words 0 (after 0)
  blank id words l = record {
    newest = λ i h k. absurd (omega (arith, h));
    blank = λ j h k. cleared_below mem S.slots (S.base id + j) (omega (arith, h, fitting.within id l));
  }

  module _ (x : Samples) (v : Values) (meets : Meets S.records S.lead x 0 v) where
    -- the rings after u opening ticks
    record Begun (u : ℕ) : Type 0 where
      samples : (c : ℕ) → c < count Channel S.records → RingHolds S (channel c) (λ t. word (x t c)) 0 (after u)
      values : (s : ℕ) → s < count Stream S.records → RingHolds S (stream s) (λ i. word (v s i)) (u + S.lead s - top) (after u)

    begun : (u : ℕ) → u ≤ top → Begun u
    begun zero h = record {
      samples = λ c l. blank (channel c) (λ t. word (x t c)) (channel_ring S.records c l);
      values = λ s l. recounted S (stream s) (λ i. word (v s i)) 0 (zero + S.lead s - top) (after 0) (omega (arith, fitting.most s l)) (blank (stream s) (λ i. word (v s i)) (stream_ring S.records s l));
    }
    begun (suc u) h =
        let b = begun u (omega (arith, h)) in
        let p = one_tick u (has_room u) in
        let m : 0 ≡ suc u - top = omega (arith, h) in
        record {
          samples = λ c l. samples_stay S order rank top fitting u (after u) (after (suc u)) p x v 0 m (λ t c k. absurd (omega (arith, k))) (met u h) b.samples b.values c l;
          values = λ s l. values_grow S order rank top fitting u (after u) (after (suc u)) p x v 0 m (λ t c k. absurd (omega (arith, k))) (met u h) b.samples b.values s l;
        }
      where
        met : (u : ℕ) → suc u ≤ top → (s i : ℕ) → s < count Stream S.records → i < suc u + S.lead s - top →
            HasType (equation_of S.records s).ty (v s i) × (v s i ≡ by_equation S.records x v s i)
        met u h s i l k = meets s i l (omega (arith, h, k))

    opened_holds : RingsHold S x 0 v 0 (after top)
    opened_holds = record {
      samples = (begun top (omega arith)).samples;
      values = λ s l. recounted S (stream s) (λ i. word (v s i)) (top + S.lead s - top) (0 + S.lead s) (after top) (omega arith) ((begun top (omega arith)).values s l);
    }

  pub opened_opens : OpensRings S mem (opened S order top mem)
  opened_opens = record {
    held = λ x v meets. opened_holds x v meets;
    past = past top;
    long = long top;
  }
