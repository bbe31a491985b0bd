-- The alarms called at a tick, by their rules. Assumes nothing.
use Rattle.std.proofs.Common.{◌≡◌, ℕ, zero, suc, ◌+◌, ◌≤◌, Bool, true, false, if◌then◌else◌, List, [], ◌∷◌, ◌++◌, length, map, refl, sym, ap, ◌∙◌, arith, slice_index_or, drop}
use Rattle.operators.specs.Operators.{truth}
use Rattle.syntax.specs.Entries.{Entry}
use Rattle.syntax.specs.Entries as entry
use Rattle.syntax.specs.Written.{Small}
use Rattle.std.specs.List.{AllByRecursion}
use Rattle.std.specs.Coded.{le_prop}
use Rattle.std.proofs.Math.Logic.{∥∥₁_elim}
use Rattle.std.proofs.lemmas.List.{length-map}
use Rattle.evaluation.specs.Meaning.{Samples, Values, meaning}
use Rattle.equations.specs.Alarms.{Call, Rule, rules, no_rule, rule_of, called_from, called_at}
use Rattle.rings.specs.Memory.{samples_in, values_in}
use Rattle.tables.specs.declared.table.Table.{Table}
use Rattle.tables.specs.Tables.{records_of}
use Rattle.values.specs.declared.value.Value.{Value}
use Rattle.alarms.specs.Arguments.{arguments}
use Rattle.engine.specs.Rings.{rings_of}
use Rattle.engine.specs.Rules.{called_in, true_rules, arguments_in}
use Rattle.monitor.specs.Delivering.{arguments_from, alarm_in}
use Rattle.monitor.specs.Histories.{call_of}
use Rattle.monitor.specs.Standing.{call_in}

-- each alarm called is its rule's
module _ (x : Samples) (v : Values) (tick : ℕ) where
  abbrev by_rule : List Rule → ℕ → Call
  by_rule all k = record { tick = tick; rule = k; arguments = map (meaning x v tick) (slice_index_or all k no_rule).arguments }

  one_rule : (all : List Rule) (k : ℕ) (r : Rule) (calls : List Call) (b : Bool)
      → record { tick = tick; rule = k; arguments = map (meaning x v tick) r.arguments } ≡ by_rule all k → calls ≡ map (by_rule all) (map (λ (c : Call). c.rule) calls)
      → (if b then record { tick = tick; rule = k; arguments = map (meaning x v tick) r.arguments } ∷ calls else calls)
      ≡ map (by_rule all) (map (λ (c : Call). c.rule) (if b then record { tick = tick; rule = k; arguments = map (meaning x v tick) r.arguments } ∷ calls else calls))
  one_rule all k r calls true this more = λ i. this i ∷ more i
  one_rule all k r calls false this more = more

  from_rules : (all : List Rule) (k : ℕ) (rest : List Rule) → ((j : ℕ) → slice_index_or rest j no_rule ≡ slice_index_or all (k + j) no_rule)
      → called_from x v tick k rest ≡ map (by_rule all) (map (λ (c : Call). c.rule) (called_from x v tick k rest))
  from_rules all k [] at = refl
  from_rules all k (r ∷ rest) at =
      one_rule all k r (called_from x v tick (k + 1) rest) (truth (meaning x v tick r.guard))
      (ap (λ (q : Rule). record { tick = tick; rule = k; arguments = map (meaning x v tick) q.arguments }) (at 0 ∙ ap (λ n. slice_index_or all n no_rule) (omega arith)))
      (from_rules all (k + 1) rest (λ j. at (suc j) ∙ ap (λ n. slice_index_or all n no_rule) (omega arith)))

-- ---- a rule has four arguments at most
few_by : (rs : List Entry) → AllByRecursion Small rs → (k : ℕ) → length (slice_index_or (rules rs) k no_rule).arguments ≤ 4
few_by [] all k = omega arith
few_by (entry.channel t ∷ rs) all k = few_by rs all.1 k
few_by (entry.stream t vs e ∷ rs) all k = few_by rs all.1 k
few_by (entry.rule g es ∷ rs) all zero = all.0.0
few_by (entry.rule g es ∷ rs) all (suc k) = few_by rs all.1 k

kept_values : (vs : List Value) → length vs ≤ 4 → arguments (arguments_from vs) ≡ vs
kept_values [] few = refl
kept_values (a ∷ []) few = refl
kept_values (a ∷ b ∷ []) few = refl
kept_values (a ∷ b ∷ c ∷ []) few = refl
kept_values (a ∷ b ∷ c ∷ d ∷ []) few = refl
kept_values (a ∷ b ∷ c ∷ d ∷ e ∷ vs) few = absurd (omega (arith, few))

module _ (t : Table) (mem : List ℕ) (tick : ℕ) where
  few_values : (k : ℕ) → length (arguments_in t mem tick k) ≤ 4
  few_values k =
      let few : length (rule_of (records_of t) k).arguments ≤ 4 = ∥∥₁_elim t.accepted le_prop (λ a. few_by (records_of t) a.in_order.small k) in
      omega (arith, few, length-map (rule_of (records_of t) k).arguments (meaning (samples_in (rings_of t) mem) (values_in (rings_of t) mem) tick))

  -- the alarm of a rule is the one that it calls
  pub call_of_alarm : (k : ℕ) → call_of (alarm_in t mem tick k) ≡ call_in t mem tick k
  call_of_alarm k = ap (λ vs. record { tick = tick; rule = k; arguments = vs }) (kept_values (arguments_in t mem tick k) (few_values k))

  pub called_by_rules : called_in t mem tick ≡ map (call_in t mem tick) (true_rules t mem tick)
  called_by_rules = from_rules (samples_in (rings_of t) mem) (values_in (rings_of t) mem) tick (rules (records_of t)) 0 (rules (records_of t)) (λ j. ap (λ n. slice_index_or (rules (records_of t)) n no_rule) (omega arith))
