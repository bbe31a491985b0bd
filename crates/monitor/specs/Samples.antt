-- The samples that rows give, and what a sample call does to its sampler. Assumes nothing.
use Rattle.std.specs.Prelude.{◌≡◌, ℕ, ◌<◌, false, List, length, Some, None, Option, slice_index_or}
use Rattle.std.specs.Option.{unwrap_or}
use Rattle.values.specs.declared.value.Value.{Value}
use Rattle.values.specs.declared.value.Value.TheVariants.{Bool}
use Rattle.values.specs.Values.{HasType}
use Rattle.syntax.specs.declared.record.Kind.TheVariants.{Channel}
use Rattle.syntax.specs.Entries.{Entry, count}
use Rattle.evaluation.specs.Meaning.{Samples}
use Rattle.equations.specs.Equations.{channel_type}
use Rattle.sampling.specs.Rows.{Readings, nothing}
use Rattle.faults.specs.declared.fault.Fault.{Fault}
use Rattle.sampling.specs.Meanings.{SameRows}
use Rattle.sampling.specs.declared.sampler.Sampler.{Ghosts as Sampler}

-- the value that a row gives at each channel; false where it has nothing
abbrev pub row_value : Readings → ℕ → Value
row_value row c = unwrap_or (row c) (Bool false)

-- the samples of the rows of several ticks, from tick 0 on
abbrev pub samples : List Readings → Samples
samples rows t c = row_value (slice_index_or rows t nothing) c

-- a row has a value of its type at each declared channel
abbrev pub TypedRow : List Entry → Readings → Type 0
TypedRow rs row = (c : ℕ) → c < count Channel rs → (v : Value) × (row c ≡ Some v) × HasType (channel_type rs c) v

-- each of several rows does
abbrev pub TypedRows : List Entry → List Readings → Type 0
TypedRows rs rows = (t : ℕ) → t < length rows → TypedRow rs (slice_index_or rows t nothing)

-- one latch of a sampler: its next row, where it has one, is the present one; otherwise both rows stay, and the rest is what a refused latch leaves
abbrev pub LatchedOnce : {S : Type 0} → Sampler S → Option Readings → S → S → Type 0
LatchedOnce sampler None old new = SameRows (sampler.meaning old) (sampler.meaning new) × sampler.rests old new
LatchedOnce sampler (Some row) old new = ((sampler.meaning new).present ≡ row) × sampler.moves old new

-- what a sample call does to its sampler: nothing where it is refused before, and otherwise one latch
abbrev pub Polls : {S : Type 0} → Sampler S → Option Fault → S → S → Type 0
Polls sampler (Some fault) old new = new ≡ old
Polls sampler None old new = LatchedOnce sampler (sampler.meaning old).next old new
