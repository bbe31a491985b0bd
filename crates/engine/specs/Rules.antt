-- The rules of a table at a tick, by what the slots hold. Assumes nothing.
use Rattle.std.specs.Prelude.{ℕ, List, map}
use Rattle.values.specs.declared.value.Value.{Value}
use Rattle.equations.specs.Alarms.{Call, called_at, rule_of}
use Rattle.rings.specs.Memory.{samples_in, values_in}
use Rattle.tables.specs.declared.table.Table.{Table}
use Rattle.tables.specs.Tables.{records_of}
use Rattle.engine.specs.Rings.{rings_of, read_at}

-- the alarms that are called at a tick
abbrev pub called_in : Table → List ℕ → ℕ → List Call
called_in t mem tick = called_at (records_of t) (samples_in (rings_of t) mem) (values_in (rings_of t) mem) tick

-- the rules that call them, in table order
abbrev pub true_rules : Table → List ℕ → ℕ → List ℕ
true_rules t mem tick = map (λ (c : Call). c.rule) (called_in t mem tick)

-- the arguments' values of the k-th rule at a tick
abbrev pub arguments_in : Table → List ℕ → ℕ → ℕ → List Value
arguments_in t mem tick k = map (read_at t mem tick) (rule_of (records_of t) k).arguments
