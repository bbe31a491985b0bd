-- What a bell shows. Assumes nothing.
use Rattle.std.specs.Prelude.{◌-◌}
use Rattle.faults.specs.declared.cause.Cause.TheVariants.{SinkFull}
use Rattle.faults.specs.declared.fault.Fault.{Fault}
use Rattle.faults.specs.declared.fault.Layer.TheVariants as layer
use Rattle.faults.specs.Faults.{made_by}
use Rattle.alarms.specs.declared.bell.Bell.{Bell}
use Rattle.alarms.specs.Sinks.{View, counted}

-- what a bell is to its callers: it holds nothing, and has a place for each alarm that can still be counted
abbrev pub bell_view : Bell → View (Unit {0})
bell_view b =
    record { holding = tt; number = counted b.tally.number; latest = b.tally.latest; places = 4294967295 - b.tally.number }

-- the fault of a bell without a place
abbrev pub bell_full : Fault
bell_full = made_by layer.Bell SinkFull
