-- What two streams show tick by tick, and what a judged tick adds to rings. Assumes nothing.
use Rattle.std.specs.Prelude.{◌≡◌, ℕ, ◌+◌, ◌<◌, List, [], ◌∷◌, Some, Option}
use Rattle.values.specs.declared.value.Value.{Value}
use Rattle.values.specs.declared.value.Value.TheVariants.{Word8, Word64}
use Rattle.syntax.specs.declared.record.Kind.TheVariants.{Channel}
use Rattle.syntax.specs.Entries.{count}
use Rattle.evaluation.specs.Meaning.{Samples, Values}
use Rattle.equations.specs.Equations.{TypedSamples, Meets}
use Rattle.rings.specs.Memory.{HoldsValues}
use Rattle.tables.specs.declared.table.Table.{Table}
use Rattle.tables.specs.Tables.{records_of}
use Rattle.engine.specs.Rings.{rings_of, lead_of}

-- of two streams that read each other m2 has 1, 2, 1, 2 at indexes 0 to 3, each newest after its tick
abbrev pub m2_repeating : List (Option (ℕ × Value))
m2_repeating = Some (0, Word8 1) ∷ Some (1, Word8 2) ∷ Some (2, Word8 1) ∷ Some (3, Word8 2) ∷ []

-- of the three streams, with drop 2, m2 has 4 and 26 at indexes 0 and 1
abbrev pub m2_ahead : List (Option (ℕ × Value))
m2_ahead = Some (0, Word64 4) ∷ Some (1, Word64 26) ∷ []

-- the samples and the values of tick n join those of the ticks before it
abbrev pub AddsTick : Table → ℕ → (ℕ → Value) → List ℕ → List ℕ → Type 0
AddsTick t n row old new =
    (x : Samples) → ((c : ℕ) → c < count Channel (records_of t) → row c ≡ x n c) → TypedSamples (records_of t) x (n + 1) →
    HoldsValues (rings_of t) x n n old → HoldsValues (rings_of t) x (n + 1) (n + 1) new

-- after tick n a stream whose lead is 0 has index n newest, with the value that the one set of values has there
abbrev pub Shows : Table → ℕ → List ℕ → ℕ → Option (ℕ × Value) → Type 0
Shows t n mem s shown =
    (x : Samples) (v : Values) → HoldsValues (rings_of t) x (n + 1) (n + 1) mem → Meets (records_of t) (lead_of t) x (n + 1) v → lead_of t s ≡ 0 →
    shown ≡ Some (n, v s n)
