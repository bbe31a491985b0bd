-- What one store after another makes of the memory: the relations of storing samples and of judging. Assumes nothing.
use Rattle.std.proofs.Common.{◌≡◌, ℕ, zero, suc, ◌+◌, ◌-◌, ◌%◌, ◌<◌, ◌≤◌, List, length, get_or, set, pos, refl, sym, ap, ◌∙◌, subst, inl, inr, arith, mod-lt, get_or-set_same, get_or-set_other, length-set}
use Rattle.std.proofs.ByRecursion.{All-weaker}
use Rattle.std.proofs.lemmas.Bool.{cases_lt, cases_eq, cond-true, cond-false, le-leb, lt-leb}
use Rattle.values.specs.declared.value.Value.{Value}
use Rattle.values.specs.Values.{wrap, word}
use Rattle.syntax.specs.declared.record.Kind.TheVariants.{Channel, Stream}
use Rattle.syntax.specs.Entries.{count}
use Rattle.names.specs.declared.uses.Name.{Name}
use Rattle.names.specs.declared.uses.Name.TheVariants as name
use Rattle.names.specs.Uses.{uses}
use Rattle.references.specs.declared.reference.Id.{Id}
use Rattle.schedule.specs.Graphs.{channel, stream}
use Rattle.schedule.proofs.Taking.{channel_ring, stream_ring}
use Rattle.evaluation.specs.Meaning.{Same}
use Rattle.equations.specs.Equations.{channel_type, equation_of, opening_of, by_equation}
use Rattle.equations.proofs.Reading.{same_equation}
use Rattle.equations.proofs.Sound.{Reads}
use Rattle.rings.specs.Systems.{System, slot}
use Rattle.rings.specs.Memory.{samples_in, values_in}
use Rattle.rings.specs.Calls.{StoresSamples, Judges}
use Rattle.rings.specs.Steps.{stored_samples, worked_first}
use Rattle.rings.proofs.Fitting.{Keeps, Fitting}
use Rattle.rings.proofs.Ring.{slots_apart}
use Rattle.rings.proofs.Ticking.{Ticks, channel_apart, stream_apart}
use Rattle.rings.proofs.Keeping.{from_ticks}

module _ (S : System) (order : List ℕ) (rank : ℕ → ℕ) (top : ℕ) (fitting : Fitting S order rank top) where
  abbrev streams : ℕ
  streams = count Stream S.records

  -- a slot of a ring lies within a memory that has room
  in_room : (id : Id) (i : ℕ) (mem : List ℕ) → 0 < S.size id → S.base id + S.size id ≤ S.slots → S.slots ≤ length mem → slot S id i < length mem
  in_room id i mem some within room = omega (arith, mod-lt i some, within, room)

  -- ---- judging
  module _ (u : ℕ) (mem : List ℕ) (room : S.slots ≤ length mem) where
    abbrev after : ℕ → List ℕ
    after k = worked_first S order top u mem k

    abbrev index : ℕ → ℕ
    index s = u + S.lead s - top

    abbrev place : ℕ → ℕ
    place s = slot S (stream s) (index s)

    abbrev given : List ℕ → ℕ → ℕ
    given m s = word (by_equation S.records (samples_in S m) (values_in S m) s (index s))

    abbrev turn : ℕ → ℕ
    turn k = get_or order k 0

    stores : (k : ℕ) → top ≤ u + S.lead (turn k) → after (suc k) ≡ set (after k) (place (turn k)) (given (after k) (turn k))
    stores k t = cond-true _ _ _ (le-leb top (u + S.lead (turn k)) t)

    skips : (k : ℕ) → u + S.lead (turn k) < top → after (suc k) ≡ after k
    skips k t = cond-false _ _ _ (lt-leb top (u + S.lead (turn k)) t)

    long : (k : ℕ) → length (after k) ≡ length mem
    long zero = refl
    long (suc k) = elim (cases_lt (u + S.lead (turn k)) top) [
      | inl below ↦ ap (λ (m : List ℕ). length m) (skips k below) ∙ long k
      | inr t ↦ ap (λ (m : List ℕ). length m) (stores k t) ∙ length-set (after k) (place (turn k)) (given (after k) (turn k)) ∙ long k
    ]

    step_stays : (k i : ℕ) → (top ≤ u + S.lead (turn k) → ¬ (i ≡ place (turn k))) → get_or (after (suc k)) i 0 ≡ get_or (after k) i 0
    step_stays k i ne = elim (cases_lt (u + S.lead (turn k)) top) [
      | inl below ↦ ap (λ (m : List ℕ). get_or m i 0) (skips k below)
      | inr t ↦
          ap (λ (m : List ℕ). get_or m i 0) (stores k t) ∙
          get_or-set_other (after k) (place (turn k)) i (given (after k) (turn k)) 0 (ne t)
    ]

    -- a slot that no stream from the k-th on takes stays
    stays : (k m i : ℕ) → k ≤ m → m ≤ streams → ((s : ℕ) → s < streams → k ≤ rank s → top ≤ u + S.lead s → ¬ (i ≡ place s)) → get_or (after m) i 0 ≡ get_or (after k) i 0
    stays k zero i h l ne = ap (λ (j : ℕ). get_or (after j) i 0) (let e : zero ≡ k = omega (arith, h) in e)
    stays k (suc m) i h l ne = elim (cases_eq k (suc m)) [
      | inl e ↦ ap (λ (j : ℕ). get_or (after j) i 0) (sym e)
      | inr less ↦
          step_stays m i (ne (turn m) (fitting.ordered m (omega (arith, l))) (omega (arith, h, less, fitting.rank_of m (omega (arith, l))))) ∙
          stays k m i (omega (arith, h, less)) (omega (arith, l)) ne
    ]

    abbrev final : List ℕ
    final = after streams

    module _ (k : ℕ) (lk : k < streams) where
      abbrev s : ℕ
      s = turn k

      abbrev p : ℕ
      p = index s - opening_of S.records s

      l : s < streams
      l = fitting.ordered k lk

      is_rank : rank s ≡ k
      is_rank = fitting.rank_of k lk

      -- what the k-th reads stays from then on
      one : top ≤ u + S.lead s → opening_of S.records s ≤ index s → (n : Name) →
          Reads S.records S.lead rank (S.lead s) (opening_of S.records s) (rank s) n × Keeps S (S.lead s) (opening_of S.records s) n →
          Same (samples_in S (after k)) (values_in S (after k)) p (samples_in S final) (values_in S final) p n
      one t h (name.Channel c) f =
          ap (λ (w : ℕ). wrap (channel_type S.records c) (pos w))
          (sym (stays k streams (slot S (channel c) p) (omega (arith, lk)) (omega arith)
          (λ q lq _ _. channel_apart S order rank top fitting c q (p % S.size (channel c)) (index q) f.0.known lq (mod-lt p (fitting.some (channel c) (channel_ring S.records c f.0.known))))))
      one t h (name.Stream q d) f =
          ap (λ (w : ℕ). wrap (equation_of S.records q).ty (pos w))
          (sym (stays k streams (slot S (stream q) (p + d)) (omega (arith, lk)) (omega arith)
          (λ b lb rb tb e. elim (cases_eq q b) [
            | inl is ↦
                let here : slot S (stream q) (p + d) ≡ place q = e ∙ ap place (sym is) in
                let tq : top ≤ u + S.lead q = omega (arith, tb, ap (S.lead) is) in
                let i : p + d ≡ index q = slots_apart (S.size (stream q)) (p + d) (index q) (omega (arith, h, t, f.0.ahead)) (omega (arith, h, t, f.1)) (omega (arith, here)) in
                omega (arith, f.0.before (omega (arith, i, h, t, tq)), is_rank, rb, ap rank is)
            | inr other ↦ stream_apart S order rank top fitting q b ((p + d) % S.size (stream q)) (index b) f.0.known lb (mod-lt (p + d) (fitting.some (stream q) (stream_ring S.records q f.0.known))) other e
          ])))

      stored_at : top ≤ u + S.lead s → get_or final (place s) 0 ≡ given final s
      stored_at t =
          stays (suc k) streams (place s) lk (omega arith)
          (λ b lb rb tb. stream_apart S order rank top fitting s b (index s % S.size (stream s)) (index b) l lb (mod-lt (index s) (fitting.some (stream s) (stream_ring S.records s l))) (λ e. omega (arith, ap rank e, is_rank, rb))) ∙
          ap (λ (m : List ℕ). get_or m (place s) 0) (stores k t) ∙
          get_or-set_same (after k) (place s) (given (after k) s) 0
          (in_room (stream s) (index s) (after k) (fitting.some (stream s) (stream_ring S.records s l)) (fitting.within (stream s) (stream_ring S.records s l)) (omega (arith, room, long k))) ∙
          ap word (same_equation S.records (samples_in S (after k)) (values_in S (after k)) (samples_in S final) (values_in S final) s (index s)
          (λ h. All-weaker _ _ (λ n. one t h n.name) (uses (equation_of S.records s).body) (fitting.reads s l)))

    pub worked_ticks : Ticks S top u mem (worked_first S order top u mem streams)
    worked_ticks = record {
      stored = λ s l. subst (λ (y : ℕ). top ≤ u + S.lead y → get_or final (place y) 0 ≡ given final y) (fitting.order_of s l) (stored_at (rank s) (fitting.ranked s l));
      others = λ i ne. stays 0 streams i (omega arith) (omega arith) (λ s l _. ne s l);
      long = long streams;
    }

  pub worked_judges : (n : ℕ) (mem : List ℕ) → S.slots ≤ length mem → Judges S n mem (worked_first S order top (n + top) mem streams)
  worked_judges n mem room = from_ticks S top n mem (worked_first S order top (n + top) mem streams) (worked_ticks (n + top) mem room)

  -- ---- storing samples
  module _ (n : ℕ) (row : ℕ → Value) (mem : List ℕ) (room : S.slots ≤ length mem) where
    abbrev channels : ℕ
    channels = count Channel S.records

    abbrev rows : ℕ → List ℕ
    rows c = stored_samples S n row mem c

    rows_long : (c : ℕ) → length (rows c) ≡ length mem
    rows_long zero = refl
    rows_long (suc c) = length-set (rows c) (slot S (channel c) n) (word (row c)) ∙ rows_long c

    two_channels : (b c : ℕ) → b < channels → c < channels → ¬ (b ≡ c) → ¬ (slot S (channel b) n ≡ slot S (channel c) n)
    two_channels b c lb lc ne =
        fitting.apart (channel b) (channel c) (channel_ring S.records b lb) (channel_ring S.records c lc) (λ e. ne (ap (λ (id : Id). id.number) e)) (n % S.size (channel b)) (n % S.size (channel c))
        (mod-lt n (fitting.some (channel b) (channel_ring S.records b lb))) (mod-lt n (fitting.some (channel c) (channel_ring S.records c lc)))

    row_stored : (c b : ℕ) → c ≤ channels → b < c → get_or (rows c) (slot S (channel b) n) 0 ≡ word (row b)
    row_stored zero b l h = absurd (omega (arith, h))
    row_stored (suc c) b l h = elim (cases_eq b c) [
      | inl e ↦
          ap (λ (y : ℕ). get_or (rows (suc c)) (slot S (channel y) n) 0) e ∙
          get_or-set_same (rows c) (slot S (channel c) n) (word (row c)) 0
          (in_room (channel c) n (rows c) (fitting.some (channel c) (channel_ring S.records c (omega (arith, l)))) (fitting.within (channel c) (channel_ring S.records c (omega (arith, l)))) (omega (arith, room, rows_long c))) ∙
          ap (λ (y : ℕ). word (row y)) (sym e)
      | inr ne ↦
          get_or-set_other (rows c) (slot S (channel c) n) (slot S (channel b) n) (word (row c)) 0 (two_channels b c (omega (arith, l, h)) (omega (arith, l)) ne) ∙
          row_stored c b (omega (arith, l)) (omega (arith, h, ne))
    ]

    row_elsewhere : (c k : ℕ) → c ≤ channels → ((b : ℕ) → b < channels → ¬ (k ≡ slot S (channel b) n)) → get_or (rows c) k 0 ≡ get_or mem k 0
    row_elsewhere zero k l ne = refl
    row_elsewhere (suc c) k l ne =
        get_or-set_other (rows c) (slot S (channel c) n) k (word (row c)) 0 (ne c (omega (arith, l))) ∙ row_elsewhere c k (omega (arith, l)) ne

    pub samples_stored : StoresSamples S n row mem (stored_samples S n row mem channels)
    samples_stored = record {
      stored = λ c l. row_stored channels c (omega arith) l;
      others = λ k ne. row_elsewhere channels k (omega arith) ne;
      long = rows_long channels;
    }
