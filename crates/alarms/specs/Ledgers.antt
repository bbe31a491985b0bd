-- What a ledger lists and shows, and what taking an alarm makes of it. Assumes nothing.
use Rattle.std.specs.Prelude.{◌≡◌, ℕ, ◌+◌, ◌-◌, ◌<◌, min, List, [], ◌∷◌, ◌++◌, length, take, slice_set}
use Rattle.std.specs.Borrow.{GName}
use Rattle.faults.specs.declared.cause.Cause.TheVariants.{SinkFull}
use Rattle.faults.specs.declared.fault.Fault.{Fault}
use Rattle.faults.specs.declared.fault.Layer.TheVariants as layer
use Rattle.faults.specs.Faults.{made_by}
use Rattle.alarms.specs.declared.alarm.Alarm.{Alarm}
use Rattle.alarms.specs.declared.ledger.Ledger.{Ledger}
use Rattle.alarms.specs.Sinks.{View, counted}

-- the entries of the memory that was lent
abbrev pub entries_of : Ledger → List Alarm
entries_of l = l.entries.now

-- how many of them are listed, from the front
abbrev pub count_of : Ledger → ℕ
count_of l = l.len

-- which memory that is
abbrev pub memory_of : Ledger → GName
memory_of l = l.entries.ghost_name

-- the alarms that are listed
abbrev pub listed : Ledger → List Alarm
listed l = take (count_of l) (entries_of l)

-- taking an alarm adds it at the end
abbrev pub added : List Alarm → Alarm → List Alarm
added list a = list ++ (a ∷ [])

-- what a ledger is to its callers: its places are the free entries, as far as alarms can still be counted
abbrev pub ledger_view : Ledger → View (List Alarm)
ledger_view l =
    record { holding = listed l; number = counted l.tally.number; latest = l.tally.latest; places = min (length (entries_of l) - count_of l) (4294967295 - l.tally.number) }

-- the same with an empty list
abbrev pub emptied : Ledger → Ledger
emptied l = record l { len = 0 }

-- the fault of a ledger without a place
abbrev pub ledger_full : Fault
ledger_full = made_by layer.Ledger SinkFull

-- an alarm was written behind those listed; every other entry is as it was, and the memory is the same that was lent
pub record Written (a : Alarm) (old new : Ledger) : Type 0 where
  pub room : count_of old < length (entries_of old)
  pub entries : entries_of new ≡ slice_set (entries_of old) (count_of old) a
  pub count : count_of new ≡ count_of old + 1
  pub lent : memory_of new ≡ memory_of old
