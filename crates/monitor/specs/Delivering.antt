-- The first due alarm, and what becomes of it. Assumes nothing.
use Rattle.std.specs.Prelude.{◌≡◌, ℕ, ◌-◌, Bool, true, false, List, [], ◌∷◌, Some, None, Option, slice_index_or}
use Rattle.faults.specs.declared.fault.Fault.{Fault}
use Rattle.values.specs.declared.value.Value.{Value}
use Rattle.alarms.specs.declared.alarm.Alarm.{Alarm}
use Rattle.alarms.specs.declared.alarm.Arguments.{Arguments}
use Rattle.alarms.specs.declared.alarm.Arguments.TheVariants as args
use Rattle.alarms.specs.declared.sink.Sink.{Ghosts as Sink}
use Rattle.alarms.specs.Sinks.{Taken, has_place}
use Rattle.tables.specs.declared.table.Table.{Table}
use Rattle.engine.specs.Rules.{arguments_in}
use Rattle.monitor.specs.States.{State}

-- values as an alarm's arguments: the first four
abbrev pub arguments_from : List Value → Arguments
arguments_from [] = args.None
arguments_from (a ∷ []) = args.One a
arguments_from (a ∷ b ∷ []) = args.Two a b
arguments_from (a ∷ b ∷ c ∷ []) = args.Three a b c
arguments_from (a ∷ b ∷ c ∷ d ∷ rest) = args.Four a b c d

-- the alarm of a rule at a tick, with its arguments by what the memory holds
abbrev pub alarm_in : Table → List ℕ → ℕ → ℕ → Alarm
alarm_in t mem tick rule = record { tick = tick; rule = rule; arguments = arguments_from (arguments_in t mem tick rule) }

-- the first rule whose alarm is due
abbrev pub first_due : State → ℕ
first_due s = slice_index_or s.due 0 0

-- its alarm: of the tick judged last
abbrev pub first_alarm : Table → List ℕ → State → Alarm
first_alarm t mem s = alarm_in t mem (s.ticks - 1) (first_due s)

-- one offer of an alarm to a sink: it is taken where there is a place for it; otherwise what the sink shows stays, and the rest is what a refused offer of that alarm leaves
abbrev pub OfferedOnce : {K : Type 0} → Sink K → Alarm → Bool → K → K → Type 0
OfferedOnce sink a true old new = Taken sink.adds a (sink.view old) (sink.view new) × sink.moves a old new
OfferedOnce sink a false old new = (sink.view new ≡ sink.view old) × sink.rests a old new

-- what a delivery does to its sink: nothing where it is refused before, and otherwise one offer
abbrev pub Delivers : {K : Type 0} → Sink K → Option Fault → Alarm → K → K → Type 0
Delivers sink (Some fault) a old new = new ≡ old
Delivers sink None a old new = OfferedOnce sink a (has_place (sink.view old) a) old new
