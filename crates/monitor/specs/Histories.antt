-- What has happened on a day, and what is so of a monitor after it. Assumes nothing.
use Rattle.std.specs.Prelude.{◌≡◌, ℕ, ◌+◌, List, [], ◌∷◌, ◌++◌, length, map}
use Rattle.alarms.specs.declared.alarm.Alarm.{Alarm}
use Rattle.alarms.specs.Arguments.{arguments}
use Rattle.equations.specs.Equations.{OneSet}
use Rattle.equations.specs.Alarms.{Call, called}
use Rattle.sampling.specs.Rows.{Readings}
use Rattle.tables.specs.declared.table.Table.{Table}
use Rattle.tables.specs.Tables.{records_of, plan_of}
use Rattle.monitor.specs.declared.states.Shown.{Shown}
use Rattle.monitor.specs.Samples.{samples, TypedRows}
use Rattle.monitor.specs.States.{State}

-- what became of an alarm that is no longer due
pub data Fate : Type 0 where
  taken : Alarm → Fate
  struck : Alarm → Fate

-- a day so far: the rows of the judged ticks, tick by tick, and what became of alarms, in order
pub record History : Type 0 where
  pub rows : List Readings
  pub settled : List Fate

-- a day that has just been opened; with another tick judged; with another alarm settled
abbrev pub new_day : History
new_day = record { rows = []; settled = [] }

abbrev pub with_row : History → Readings → History
with_row h row = record h { rows = h.rows ++ (row ∷ []) }

abbrev pub with_fate : History → Fate → History
with_fate h fate = record h { settled = h.settled ++ (fate ∷ []) }

-- the alarms that were taken, and those that were struck, in order
abbrev pub all_taken : List Fate → List Alarm
all_taken [] = []
all_taken (taken a ∷ fates) = a ∷ all_taken fates
all_taken (struck a ∷ fates) = all_taken fates

abbrev pub all_struck : List Fate → List Alarm
all_struck [] = []
all_struck (taken a ∷ fates) = all_struck fates
all_struck (struck a ∷ fates) = a ∷ all_struck fates

-- an alarm as a table's rules call it
abbrev pub call_of : Alarm → Call
call_of a = record { tick = a.tick; rule = a.rule; arguments = arguments a.arguments }

-- those that were settled, in order
abbrev pub settled_call : Fate → Call
settled_call (taken a) = call_of a
settled_call (struck a) = call_of a

abbrev pub settled_calls : History → List Call
settled_calls h = map settled_call h.settled

-- after a day so far: each judged row has a value of its type at each declared channel, and exactly one set of values meets the table's equations on these samples; by it, the alarms called are those settled, each once and in order, and then those due; and the monitor has the day's counts and the due alarms' rules
pub record Follows (t : Table) (h : History) (m : State) : Type 0 where
  pub typed : TypedRows (records_of t) h.rows
  pub set : OneSet (records_of t) (samples h.rows) (length h.rows)
  pub due : List Call
  pub alarms : called (records_of t) (samples h.rows) set.values (length h.rows) ≡ settled_calls h ++ due
  pub opened : m.opened ≡ (plan_of t).counts
  pub ticks : m.ticks ≡ length h.rows
  pub rules : m.due ≡ map (λ (c : Call). c.rule) due
  pub taken : m.taken ≡ length (all_taken h.settled)
  pub struck : m.struck ≡ length (all_struck h.settled)
  pub sum : length (called (records_of t) (samples h.rows) set.values (length h.rows)) ≡ m.taken + m.struck + length m.due

-- the alarm is the first that is due
pub record IsFirstDue (t : Table) (h : History) (m : State) (a : Alarm) : Type 0 where
  pub told : Follows t h m
  pub rest : List Call
  pub first : told.due ≡ call_of a ∷ rest

-- what is shown of a stream: its newest index, its lead past the last judged tick, and the set's value there
pub record Shows (t : Table) (h : History) (m : State) (s : ℕ) (shown : Shown) : Type 0 where
  pub told : Follows t h m
  pub index : shown.index + 1 ≡ length h.rows + told.set.lead s
  pub value : shown.value ≡ told.set.values s shown.index
