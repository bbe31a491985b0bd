-- What the calls make of rings that hold the values of a history of samples, whatever that is, and what is read off them then. Assumes nothing.
use Rattle.std.specs.Prelude.{◌≡◌, ℕ, ◌+◌, ◌<◌, List, length, map}
use Rattle.values.specs.declared.value.Value.{Value}
use Rattle.syntax.specs.declared.record.Kind.TheVariants.{Channel}
use Rattle.syntax.specs.Entries.{count}
use Rattle.evaluation.specs.Meaning.{Samples, Values, meaning}
use Rattle.equations.specs.Equations.{TypedSamples, Meets, OneSet}
use Rattle.equations.specs.Alarms.{Call, rule_of, called_at}
use Rattle.equations.specs.Laws.{RestsOnThePast}
use Rattle.rings.specs.Memory.{HoldsValues}
use Rattle.rings.specs.Laws.{Lawful}
use Rattle.tables.specs.declared.table.Table.{Table}
use Rattle.tables.specs.Tables.{records_of}
use Rattle.engine.specs.Rings.{rings_of, lead_of, samples_of}

-- the samples of tick n join those of the ticks before it
abbrev pub AddsSamples : Table → ℕ → (ℕ → Value) → List ℕ → List ℕ → Type 0
AddsSamples t n row old new =
    (x : Samples) → ((c : ℕ) → c < count Channel (records_of t) → row c ≡ x n c) → HoldsValues (rings_of t) x n n old → HoldsValues (rings_of t) x (n + 1) n new

-- the values of tick n join those of the ticks before it
abbrev pub AddsValues : Table → ℕ → List ℕ → List ℕ → Type 0
AddsValues t n old new =
    (x : Samples) → TypedSamples (records_of t) x (n + 1) → HoldsValues (rings_of t) x (n + 1) n old → HoldsValues (rings_of t) x (n + 1) (n + 1) new

-- after rows of the declared types the rings hold the values of all their ticks
abbrev pub HoldsRows : Table → List (List Value) → List ℕ → Type 0
HoldsRows t rows mem =
    TypedSamples (records_of t) (samples_of rows) (length rows) → HoldsValues (rings_of t) (samples_of rows) (length rows) (length rows) mem

-- w is what the one set of values has for the stream s at index i, after n ticks
abbrev pub ShowsValue : Table → ℕ → List ℕ → ℕ → ℕ → Value → Type 0
ShowsValue t n mem s i w =
    (x : Samples) (m : ℕ) (v : Values) → HoldsValues (rings_of t) x m n mem → Meets (records_of t) (lead_of t) x n v → w ≡ v s i

-- the rings hold the values of the one set up to the judged tick n
pub record AfterTick (t : Table) (n : ℕ) (mem : List ℕ) (x : Samples) (v : Values) : Type 0 where
  pub typed : TypedSamples (records_of t) x (n + 1)
  pub holds : HoldsValues (rings_of t) x (n + 1) (n + 1) mem
  pub meets : Meets (records_of t) (lead_of t) x (n + 1) v

-- these are the rules that call an alarm at tick n by that set
abbrev pub FindsCalled : Table → ℕ → List ℕ → List ℕ → Type 0
FindsCalled t n mem ks =
    (x : Samples) (v : Values) → AfterTick t n mem x v → ks ≡ map (λ (c : Call). c.rule) (called_at (records_of t) x v n)

-- and these are the values of the k-th rule's arguments
abbrev pub FindsArguments : Table → ℕ → List ℕ → ℕ → List Value → Type 0
FindsArguments t n mem k vs =
    (x : Samples) (v : Values) → AfterTick t n mem x v → vs ≡ map (meaning x v n) (rule_of (records_of t) k).arguments

-- exactly one set of values meets the table's equations, whatever the samples and however many ticks
abbrev pub HasOneSet : Table → Type 0
HasOneSet t = (x : Samples) (n : ℕ) → TypedSamples (records_of t) x n → OneSet (records_of t) x n

-- all that holds of an accepted table's values and rings
pub record IsLawful (t : Table) : Type 0 where
  pub one : HasOneSet t
  pub past : RestsOnThePast (records_of t)
  pub rings : Lawful (rings_of t)
