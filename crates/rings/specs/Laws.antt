-- What the rings hold after each call, and what is read off them then, by the one set of values; for every history of samples. Assumes nothing.
use Rattle.std.specs.Prelude.{◌≡◌, ℕ, ◌+◌, ◌<◌, ◌≤◌, List, length, slice_index}
use Rattle.values.specs.declared.value.Value.{Value}
use Rattle.syntax.specs.declared.record.Kind.TheVariants.{Channel, Stream}
use Rattle.syntax.specs.Entries.{Entry, count}
use Rattle.schedule.specs.declared.plan.Plan.{Plan}
use Rattle.evaluation.specs.Meaning.{Samples, Values}
use Rattle.equations.specs.Equations.{TypedSamples, SameSamples, Meets}
use Rattle.equations.specs.Alarms.{SameRule, rules, rule_of, called_at}
use Rattle.equations.specs.Laws.{WellPlanned}
use Rattle.rings.specs.Systems.{System, system_of}
use Rattle.rings.specs.Memory.{samples_in, values_in, HoldsValues}
use Rattle.rings.specs.Calls.{OpensRings, StoresSamples, Judges, OpensAndJudges}

-- what each call makes of rings that hold the values so far
pub record KeepsValues (S : System) : Type 0 where
  -- the samples of the tick n join those of the ticks before it,
  pub samples : (x : Samples) (n : ℕ) (row : ℕ → Value) (old new : List ℕ) → StoresSamples S n row old new →
      ((c : ℕ) → c < count Channel S.records → row c ≡ x n c) → HoldsValues S x n n old → HoldsValues S x (n + 1) n new
  -- and its values those of the ticks before it,
  pub judges : (x : Samples) (n : ℕ) (old new : List ℕ) → Judges S n old new →
      TypedSamples S.records x (n + 1) → HoldsValues S x (n + 1) n old → HoldsValues S x (n + 1) (n + 1) new
  -- so that after any number of ticks the rings hold the values of all of them
  pub ticks : (x : Samples) (n : ℕ) (old new : List ℕ) → OpensAndJudges S x n old new → TypedSamples S.records x n → HoldsValues S x n n new
  -- what is held rests on the samples that were stored alone
  pub past : (x y : Samples) (m n : ℕ) (mem : List ℕ) → n ≤ m → SameSamples S.records m x y → HoldsValues S x m n mem → HoldsValues S y m n mem

-- each call makes one memory of what was there, whatever that was, and leaves the slots past the rings
pub record MakesOneMemory (S : System) : Type 0 where
  pub opened : (old a b : List ℕ) → OpensRings S old a → OpensRings S old b → a ≡ b
  pub stored : (n : ℕ) (row : ℕ → Value) (old a b : List ℕ) → StoresSamples S n row old a → StoresSamples S n row old b → a ≡ b
  pub judged : (n : ℕ) (old a b : List ℕ) → Judges S n old a → Judges S n old b → a ≡ b
  pub past_stored : (n : ℕ) (row : ℕ → Value) (old new : List ℕ) → StoresSamples S n row old new →
      (k : ℕ) → S.slots ≤ k → slice_index new k ≡ slice_index old k
  pub past_judged : (n : ℕ) (old new : List ℕ) → Judges S n old new → (k : ℕ) → S.slots ≤ k → slice_index new k ≡ slice_index old k

-- what is read off rings that hold the values so far, and worked out by them, is what the set gives
pub record ReadsValues (S : System) : Type 0 where
  -- the newest value of a stream,
  pub newest : (x : Samples) (m n : ℕ) (mem : List ℕ) → HoldsValues S x m n mem → (v : Values) → Meets S.records S.lead x n v →
      (s i : ℕ) → s < count Stream S.records → i + 1 ≡ n + S.lead s → values_in S mem s i ≡ v s i
  -- the guard and the arguments of a rule at the tick that was just judged,
  pub rules_at : (x : Samples) (n : ℕ) (mem : List ℕ) → HoldsValues S x (n + 1) (n + 1) mem → TypedSamples S.records x (n + 1) →
      (v : Values) → Meets S.records S.lead x (n + 1) v →
      (k : ℕ) → k < length (rules S.records) → SameRule (samples_in S mem) (values_in S mem) x v n (rule_of S.records k)
  -- and the alarms that are called at it
  pub alarms : (x : Samples) (n : ℕ) (mem : List ℕ) → HoldsValues S x (n + 1) (n + 1) mem → TypedSamples S.records x (n + 1) →
      (v : Values) → Meets S.records S.lead x (n + 1) v →
      called_at S.records (samples_in S mem) (values_in S mem) n ≡ called_at S.records x v n

-- all this is so of a table that the check accepts, by its plan
pub record Lawful (S : System) : Type 0 where
  pub keeps : KeepsValues S
  pub makes : MakesOneMemory S
  pub reads : ReadsValues S

abbrev pub Laws : Type 0
Laws = (rs : List Entry) (p : Plan) → WellPlanned rs p → Lawful (system_of rs p)
