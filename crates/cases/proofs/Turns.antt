-- What a stream without a lead shows of an accepted table, tick by tick, from its one set of values. Assumes nothing.
use Rattle.std.proofs.Common.{◌≡◌, ℕ, ◌+◌, ◌<◌, List, length, pos, Option, Some, None, sym, ap, subst, ◌∙◌, arith}
use Rattle.std.proofs.Math.Logic.{∥∥₁_elim}
use Rattle.std.proofs.Math.Nat.{ℕ_set}
use Rattle.std.specs.Prelude.{MatchOption, IfSome}
use Rattle.std.proofs.lemmas.Int.{ints}
use Rattle.values.specs.declared.value.Value.{Value}
use Rattle.syntax.specs.declared.record.Kind.TheVariants.{Channel, Stream}
use Rattle.syntax.specs.Entries.{Entry, count}
use Rattle.evaluation.specs.Meaning.{Samples}
use Rattle.equations.specs.Equations.{TypedSamples, OneSet}
use Rattle.rings.specs.Memory.{values_in, HoldsValues}
use Rattle.schedule.specs.Graphs.{graph, stream}
use Rattle.walks.specs.Walks.{Lead}
use Rattle.walks.proofs.Unique.{lead_one}
use Rattle.tables.specs.declared.table.Table.{Table}
use Rattle.tables.specs.Checking.{Accepting}
use Rattle.tables.specs.Tables.{records_of, streams_of}
use Rattle.engine.specs.Rings.{rings_of, lead_of}
use Rattle.engine.specs.Laws.{ShowsValue}
use Rattle.engine.proofs.Histories.{leads_of, one_set_of}
use Rattle.engine.proofs.Known.{streams_counted}
use Rattle.cases.specs.Cases.{Checks, AcceptedWith}
use Rattle.cases.specs.Showing.{AddsTick, Shows}

-- an acceptance with so many slots is one
pub accepting : (bytes : List ℕ) (z : ℕ) → Checks bytes (AcceptedWith z) → Checks bytes Accepting
accepting bytes z checks old new sheet sheet' r space a fed =
    let (c, is, slots) = checks old new sheet sheet' r space a fed in
    subst Accepting (sym is) tt

-- what is shown is an index, by the lead, and the value there
pub shows : (t : Table) (n : ℕ) (mem : List ℕ) (s : ℕ) (r : Option (ℕ × Value)) →
    MatchOption r (n + 1 + lead_of t s ≡ 0) (λ p. (p.0 + 1 ≡ n + 1 + lead_of t s) × (p.1 ≡ values_in (rings_of t) mem s p.0)) →
    IfSome r (λ p. ShowsValue t (n + 1) mem s p.0 p.1) → Shows t n mem s r
shows t n mem s None read value x v holds meets e = absurd (omega (arith, read))
shows t n mem s (Some (i, w)) read value x v holds meets e =
    ap (λ (y : Value). Some (i, y)) (value x (n + 1) v holds meets) ∙ ap (λ (k : ℕ). Some (k, v s k)) (omega (arith, read.0, e))

module _ (t : Table) (rs : List Entry) (is : records_of t ≡ rs) (s : ℕ) (there : s < count Stream rs) where
  pub known : s < length (streams_of t)
  known = omega (arith, streams_counted t, ap (count Stream) is, there)

  no_lead : Lead (graph rs) (stream s) (pos 0) → lead_of t s ≡ 0
  no_lead lead =
      ∥∥₁_elim (leads_of t s (omega (arith, ap (count Stream) is, there))) (ℕ_set _ _)
      (λ d. omega (
        arith,
        ints,
        lead_one (graph (records_of t)) (stream s) (pos (lead_of t s)) (pos 0) d
            (subst (λ (r : List Entry). Lead (graph r) (stream s) (pos 0)) (sym is) lead),
      ))

  -- over the samples x of so many ticks, the rings hold the values of each tick in turn, and the stream's is shown
  module _ (lead : Lead (graph rs) (stream s) (pos 0)) (x : Samples) (ticks : ℕ) (typed : TypedSamples (records_of t) x ticks) where
    abbrev pub set : OneSet (records_of t) x ticks
    set = one_set_of t x ticks typed

    abbrev pub Told : ℕ → List ℕ → Type 0
    Told n mem = HoldsValues (rings_of t) x n n mem

    pub told : (n : ℕ) → n < ticks → (row : ℕ → Value) → ((c : ℕ) → c < count Channel (records_of t) → row c ≡ x n c) → (old new : List ℕ) →
        AddsTick t n row old new → Told n old → Told (n + 1) new
    told n l row same old new adds holds = adds x same (λ k c h i. typed k c (omega (arith, h, l)) i) holds

    pub value_is : (n : ℕ) → n < ticks → (mem : List ℕ) (r : Option (ℕ × Value)) → Shows t n mem s r → Told (n + 1) mem → r ≡ Some (n, set.values s n)
    value_is n l mem r shown holds = shown x set.values holds (λ q i k h. set.meets q i k (omega (arith, h, l))) (no_lead lead)
