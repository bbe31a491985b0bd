-- The one set of values of an accepted table, and what the calls make of rings that hold it. Assumes nothing.
use Rattle.std.proofs.Common.{◌≡◌, ℕ, ◌+◌, ◌<◌, List, length, map, ap, ◌∙◌, arith}
use Rattle.std.proofs.Math.Logic.{∥∥₁_elim, ∥∥₁_prop}
use Rattle.values.specs.declared.value.Value.{Value}
use Rattle.evaluation.specs.Meaning.{Samples}
use Rattle.lists.specs.Lists.{items}
use Rattle.equations.specs.Equations.{Leads, TypedSamples, OneSet}
use Rattle.equations.specs.Alarms.{Call}
use Rattle.equations.specs.Laws.{RestsOnThePast}
use Rattle.equations.proofs.Ranking.{place}
use Rattle.equations.proofs.Sound.{Sound}
use Rattle.equations.proofs.Sounding.{leads, sound, one_set, past_of}
use Rattle.rings.specs.Memory.{values_in}
use Rattle.rings.specs.Calls.{StoresSamples, Judges, OpensAndJudges}
use Rattle.rings.specs.Laws.{Lawful}
use Rattle.rings.proofs.Tables.{laws}
use Rattle.tables.specs.declared.table.Table.{Table}
use Rattle.tables.specs.Contents.{greatest_lead_in}
use Rattle.tables.specs.Tables.{records_of, streams_of, rules_of, plan_of}
use Rattle.engine.specs.Rings.{rings_of, lead_of, samples_of}
use Rattle.engine.specs.Rules.{true_rules, arguments_in}
use Rattle.engine.specs.Laws.{IsLawful, AddsSamples, AddsValues, HoldsRows, ShowsValue, FindsCalled, FindsArguments}
use Rattle.engine.proofs.Props.{sound_prop, lawful_prop}
use Rattle.engine.proofs.Known.{well_planned, most, streams_counted, rules_counted}

module _ (t : Table) where
  pub sound_of : Sound (records_of t) (lead_of t) (place (items (plan_of t).order)) (greatest_lead_in (streams_of t))
  sound_of = ∥∥₁_elim t.accepted (sound_prop (records_of t) (lead_of t) (place (items (plan_of t).order)) (greatest_lead_in (streams_of t)))
      (λ a. sound (records_of t) (plan_of t) (well_planned t a) (greatest_lead_in (streams_of t)) (most t a))

  pub leads_of : Leads (records_of t) (lead_of t)
  leads_of s l = ∥∥₁_elim t.accepted ∥∥₁_prop (λ a. leads (records_of t) (plan_of t) (well_planned t a) s l)

  -- the one set, whose leads are those of the rings
  abbrev pub one_set_of : (x : Samples) (n : ℕ) → TypedSamples (records_of t) x n → OneSet (records_of t) x n
  one_set_of x n typed = one_set (records_of t) (lead_of t) (place (items (plan_of t).order)) (greatest_lead_in (streams_of t)) sound_of leads_of x n typed

  pub rests_on_the_past : RestsOnThePast (records_of t)
  rests_on_the_past = past_of (records_of t) (lead_of t) (place (items (plan_of t).order)) (greatest_lead_in (streams_of t)) sound_of leads_of

  pub lawful_of : Lawful (rings_of t)
  lawful_of = ∥∥₁_elim t.accepted (lawful_prop (rings_of t)) (λ a. laws (records_of t) (plan_of t) (well_planned t a))

  pub is_lawful : IsLawful t
  is_lawful = record { one = one_set_of; past = rests_on_the_past; rings = lawful_of }

  -- ---- what the calls make of rings that hold the values so far, and what is read off them
  pub adds_samples : (n : ℕ) (row : ℕ → Value) (old new : List ℕ) → StoresSamples (rings_of t) n row old new → AddsSamples t n row old new
  adds_samples n row old new made x same holds = lawful_of.keeps.samples x n row old new made same holds

  pub adds_values : (n : ℕ) (old new : List ℕ) → Judges (rings_of t) n old new → AddsValues t n old new
  adds_values n old new made x typed holds = lawful_of.keeps.judges x n old new made typed holds

  pub shows_value : (n : ℕ) (mem : List ℕ) (s i : ℕ) (w : Value) → s < length (streams_of t) → i + 1 ≡ n + lead_of t s → w ≡ values_in (rings_of t) mem s i → ShowsValue t n mem s i w
  shows_value n mem s i w l e is x m v holds meets = is ∙ lawful_of.reads.newest x m n mem holds v meets s i (omega (arith, l, streams_counted t)) e

  pub finds_called : (n : ℕ) (mem : List ℕ) (ks : List ℕ) → ks ≡ true_rules t mem n → FindsCalled t n mem ks
  finds_called n mem ks is x v j = is ∙ ap (map (λ (c : Call). c.rule)) (lawful_of.reads.alarms x n mem j.holds j.typed v j.meets)

  pub finds_arguments : (n : ℕ) (mem : List ℕ) (k : ℕ) (vs : List Value) → k < length (rules_of t) → vs ≡ arguments_in t mem n k → FindsArguments t n mem k vs
  finds_arguments n mem k vs l is x v j = is ∙ (lawful_of.reads.rules_at x n mem j.holds j.typed v j.meets k (omega (arith, l, rules_counted t))).arguments

  -- ---- after all rows
  pub holds_rows : (rows : List (List Value)) (old new : List ℕ) → OpensAndJudges (rings_of t) (samples_of rows) (length rows) old new → HoldsRows t rows new
  holds_rows rows old new made typed = lawful_of.keeps.ticks (samples_of rows) (length rows) old new made typed
