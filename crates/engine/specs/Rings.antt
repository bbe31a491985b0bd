-- A table's values in memory. Assumes nothing.
use Rattle.std.specs.Prelude.{ℕ, ◌≤◌, List, [], length, slice_index_or, false, if◌then◌else◌, nat_lt}
use Rattle.values.specs.declared.value.Value.{Value}
use Rattle.values.specs.declared.value.Value.TheVariants.{Bool}
use Rattle.evaluation.specs.Meaning.{Samples, Values, meaning}
use Rattle.syntax.specs.Trees.{Exp}
use Rattle.rings.specs.Systems.{System, system_of}
use Rattle.rings.specs.Memory.{samples_in, values_in}
use Rattle.tables.specs.declared.table.Table.{Table}
use Rattle.tables.specs.Tables.{records_of, channels_of, streams_of, plan_of}

-- a table's records, and where its values lie
abbrev pub rings_of : Table → System
rings_of t = system_of (records_of t) (plan_of t)

-- the lead of a stream
abbrev pub lead_of : Table → ℕ → ℕ
lead_of t s = (rings_of t).lead s

-- its rings lie in the memory
abbrev pub HasRoom : Table → List ℕ → Type 0
HasRoom t mem = (plan_of t).counts.slots ≤ length mem

-- an expression at p, by what the slots hold
abbrev pub read_at : Table → List ℕ → ℕ → Exp → Value
read_at t mem p e = meaning (samples_in (rings_of t) mem) (values_in (rings_of t) mem) p e

-- what is read of a channel or a stream of any number: false where there is none
abbrev pub samples_read : Table → List ℕ → Samples
samples_read t mem p c = if nat_lt c (length (channels_of t)) then samples_in (rings_of t) mem p c else Bool false

abbrev pub values_read : Table → List ℕ → Values
values_read t mem s i = if nat_lt s (length (streams_of t)) then values_in (rings_of t) mem s i else Bool false

-- the values of a row by channel
abbrev pub value_at : List Value → ℕ → Value
value_at row c = slice_index_or row c (Bool false)

-- the samples that rows give, tick by tick
abbrev pub samples_of : List (List Value) → Samples
samples_of rows t c = value_at (slice_index_or rows t []) c
