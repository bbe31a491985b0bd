-- Why a call is refused: of several reasons the first. Assumes nothing.
use Rattle.std.specs.Prelude.{ℕ, zero, suc, ◌+◌, ◌&&◌, if◌then◌else◌, List, [], ◌∷◌, length, Some, None, Ok, Err, Option, Result, ◌==◌, nat_le, nat_lt}
use Rattle.faults.specs.declared.cause.Cause.{Cause}
use Rattle.faults.specs.declared.cause.Cause.TheVariants.{OtherTable, Slots, TicksSpent, OtherType, AlarmsDue, NoneDue, NoStream, NoValueYet}
use Rattle.faults.specs.declared.fault.Fault.{Fault}
use Rattle.faults.specs.declared.fault.Layer.TheVariants.{Monitor}
use Rattle.faults.specs.declared.upper.UpperFault.{UpperFault}
use Rattle.faults.specs.Faults.{made_by, handed_on}
use Rattle.values.specs.declared.types.«Type».{«Type» as Ty}
use Rattle.values.specs.declared.value.Value.{Value}
use Rattle.values.specs.Types.{code}
use Rattle.values.specs.Values.{type_of}
use Rattle.typing.specs.Scopes.{channel_types}
use Rattle.schedule.specs.declared.plan.Counts.{Counts}
use Rattle.tables.specs.declared.table.Table.{Table}
use Rattle.tables.specs.Tables.{records_of, streams_of, plan_of}
use Rattle.engine.specs.Rings.{lead_of}
use Rattle.sampling.specs.Meanings.{Meaning}
use Rattle.sampling.specs.Rows.{Readings}
use Rattle.alarms.specs.declared.alarm.Alarm.{Alarm}
use Rattle.alarms.specs.Sinks.{has_place}
use Rattle.alarms.specs.declared.sink.Sink.{Ghosts as Sink}
use Rattle.monitor.specs.declared.states.Stopped.{Stopped}
use Rattle.monitor.specs.States.{State}

-- ---- the fault by which a call was refused, if it was
abbrev pub fault_of : {A : Type 0} → Result A Fault → Option Fault
fault_of (Ok x) = None
fault_of (Err f) = Some f

abbrev pub fault_of_stopped : {A X : Type 0} → Result A (Stopped X) → Option Fault
fault_of_stopped (Ok x) = None
fault_of_stopped (Err e) = Some e.fault

abbrev pub fault_of_upper : {A : Type 0} → Result A UpperFault → Option Fault
fault_of_upper (Ok x) = None
fault_of_upper (Err f) = Some f.fault

-- ---- the first of several reasons, in order
infixr 5 ◌orelse◌
abbrev pub ◌orelse◌ : Option Fault → Option Fault → Option Fault
(Some f) orelse g = Some f
None orelse g = g

-- a fault that the monitor makes
abbrev pub by_monitor : Cause → Fault
by_monitor c = made_by Monitor c

-- ---- the table and the memory
-- the memory is too short for the rings
abbrev pub no_room : Counts → List ℕ → Option Fault
no_room now mem = if nat_le now.slots (length mem) then None else Some (by_monitor (Slots now.slots))

-- the table has other counts than the one that was opened
abbrev pub other_table : Counts → Counts → Option Fault
other_table opened now =
    if (opened.records.channels == now.records.channels && opened.records.streams == now.records.streams && opened.records.rules == now.records.rules) && opened.slots == now.slots
    then None
    else Some (by_monitor OtherTable)

-- the one, or else the other
abbrev pub unfit : State → Table → List ℕ → Option Fault
unfit s t mem = other_table s.opened (plan_of t).counts orelse no_room (plan_of t).counts mem

-- ---- sampling
-- no more ticks can be counted
abbrev pub out_of_ticks : State → Option Fault
out_of_ticks s = if s.ticks == 4294967295 then Some (by_monitor TicksSpent) else None

-- there is nothing at a channel, or a value of another type than declared
abbrev pub bad_sample : Ty → ℕ → Option Value → Fault → Option Fault
bad_sample ty c None dark = Some (handed_on dark)
bad_sample ty c (Some v) dark = if code (type_of v) == code ty then None else Some (by_monitor (OtherType c))

-- channel by channel, for the declared types of those from c on
abbrev pub first_bad_sample : List Ty → ℕ → Readings → (ℕ → Fault) → Option Fault
first_bad_sample [] c row dark = None
first_bad_sample (ty ∷ tys) c row dark = bad_sample ty c (row c) (dark c) orelse first_bad_sample tys (c + 1) row dark

-- there is no next row, or a declared channel of it is no sample
abbrev pub bad_row : Table → Option Readings → Fault → (ℕ → Fault) → Option Fault
bad_row t None refusal dark = Some (handed_on refusal)
bad_row t (Some row) refusal dark = first_bad_sample (channel_types (records_of t)) 0 row dark

-- so of a sampler's next row; a latch is refused by the sampler before it, and a read by the sampler after it
abbrev pub unsampled : Table → Meaning → Meaning → Option Fault
unsampled t old new = bad_row t old.next old.refusal new.dark

-- ---- alarms
-- no alarm is due, or so many are
abbrev pub none_due : State → Option Fault
none_due s = if length s.due == 0 then Some (by_monitor NoneDue) else None

abbrev pub still_due : State → Option Fault
still_due s = if length s.due == 0 then None else Some (by_monitor (AlarmsDue (length s.due)))

-- a sink has no place for an alarm
abbrev pub no_place : {K : Type 0} → Sink K → K → Alarm → Option Fault
no_place sink k a = if has_place (sink.view k) a then None else Some (handed_on (sink.full k a))

-- ---- showing
-- there is no stream of this number, or it has no value yet
abbrev pub no_stream : Table → ℕ → Option Fault
no_stream t n = if nat_lt n (length (streams_of t)) then None else Some (by_monitor (NoStream n))

abbrev pub no_value : State → Table → ℕ → Option Fault
no_value s t n = if s.ticks + lead_of t n == 0 then Some (by_monitor (NoValueYet n)) else None
