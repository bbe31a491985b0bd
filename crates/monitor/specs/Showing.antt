-- The newest value of a stream, by what the memory holds. Assumes nothing.
use Rattle.std.specs.Prelude.{◌≡◌, ℕ, ◌+◌, List}
use Rattle.rings.specs.Memory.{values_in}
use Rattle.tables.specs.declared.table.Table.{Table}
use Rattle.engine.specs.Rings.{rings_of, lead_of}
use Rattle.monitor.specs.declared.states.Shown.{Shown}
use Rattle.monitor.specs.States.{State}

-- an index and a value are a stream's newest: its lead past the last judged tick
pub record IsNewest (t : Table) (mem : List ℕ) (m : State) (s : ℕ) (shown : Shown) : Type 0 where
  pub index : shown.index + 1 ≡ m.ticks + lead_of t s
  pub value : shown.value ≡ values_in (rings_of t) mem s shown.index
