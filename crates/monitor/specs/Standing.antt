-- How a monitor and its memory stand after a day so far. Assumes nothing.
use Rattle.std.specs.Prelude.{◌≡◌, ℕ, ◌+◌, ◌-◌, List, [], ◌∷◌, ◌++◌, length, map}
use Rattle.equations.specs.Equations.{Meets}
use Rattle.equations.specs.Alarms.{Call, called}
use Rattle.evaluation.specs.Meaning.{Values}
use Rattle.rings.specs.Memory.{HoldsValues}
use Rattle.sampling.specs.Rows.{Readings}
use Rattle.tables.specs.declared.table.Table.{Table}
use Rattle.tables.specs.Tables.{records_of, plan_of}
use Rattle.engine.specs.Rings.{rings_of, lead_of}
use Rattle.engine.specs.Rules.{arguments_in}
use Rattle.monitor.specs.Histories.{History, all_taken, all_struck, settled_calls, Follows}
use Rattle.monitor.specs.Samples.{samples, TypedRow, TypedRows}
use Rattle.monitor.specs.States.{State}

-- what a rule calls at a tick, by what the memory holds
abbrev pub call_in : Table → List ℕ → ℕ → ℕ → Call
call_in t mem tick rule = record { tick = tick; rule = rule; arguments = arguments_in t mem tick rule }

-- the alarms that are due, by what the memory holds
abbrev pub due_in : Table → List ℕ → State → List Call
due_in t mem m = map (call_in t mem (m.ticks - 1)) m.due

-- the monitor has the day's counts, and by every set of values that meets the equations the alarms called are those settled and then these
pub record Matches (t : Table) (h : History) (m : State) (due : List Call) : Type 0 where
  pub opened : m.opened ≡ (plan_of t).counts
  pub ticks : m.ticks ≡ length h.rows
  pub typed : TypedRows (records_of t) h.rows
  pub alarms : (v : Values) → Meets (records_of t) (lead_of t) (samples h.rows) (length h.rows) v →
      called (records_of t) (samples h.rows) v (length h.rows) ≡ settled_calls h ++ due
  pub taken : m.taken ≡ length (all_taken h.settled)
  pub struck : m.struck ≡ length (all_struck h.settled)

-- a monitor, ready or judged, and its memory after a day so far
pub record StandsAfter (t : Table) (h : History) (m : State) (mem : List ℕ) : Type 0 where
  pub keeps : Matches t h m (due_in t mem m)
  pub holds : HoldsValues (rings_of t) (samples h.rows) (length h.rows) (length h.rows) mem

-- a monitor for which a row has been sampled, and its memory, after a day so far
pub record PendsAfter (t : Table) (h : History) (row : Readings) (m : State) (mem : List ℕ) : Type 0 where
  pub keeps : Matches t h m []
  pub row_typed : TypedRow (records_of t) row
  pub holds : HoldsValues (rings_of t) (samples (h.rows ++ (row ∷ []))) (length h.rows + 1) (length h.rows) mem

-- after a call: how they stand, and what follows
abbrev pub GoesOn : Table → History → State → List ℕ → Type 0
GoesOn t h m mem = StandsAfter t h m mem × Follows t h m
