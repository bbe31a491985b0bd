-- The number and the place of every refusal. Assumes nothing.
use Rattle.std.specs.Prelude.{ℕ, Ok, Err, Result}
use Rattle.faults.specs.declared.cause.Cause.{Cause}
use Rattle.faults.specs.declared.cause.Cause.TheVariants.{Version, Ended, Malformed, Limit, Undeclared, Mistyped, Divisor, ClosedWalk, ChannelWalk, ShortSheet, Slots, OtherTable, TicksSpent, NoRow, Dark, OtherType, SinkFull, AlarmsDue, NoneDue, NoStream, NoValueYet}

-- a refusal as it is told: its number and its place
abbrev pub Refusal : Type 0
Refusal = ℕ × ℕ

-- a cause's number and its place
abbrev pub refusal : Cause → Refusal
refusal Version = (1, 0)
refusal (Ended start) = (2, start)
refusal (Malformed byte) = (3, byte)
refusal (Limit passed) = (4, passed)
refusal (Undeclared byte) = (5, byte)
refusal (Mistyped byte) = (6, byte)
refusal (Divisor byte) = (7, byte)
refusal (ClosedWalk references) = (8, references)
refusal (ChannelWalk references) = (9, references)
refusal (ShortSheet length) = (10, length)
refusal (Slots needed) = (11, needed)
refusal OtherTable = (12, 0)
refusal TicksSpent = (13, 0)
refusal (NoRow rows) = (14, rows)
refusal (Dark channel) = (15, channel)
refusal (OtherType channel) = (16, channel)
refusal SinkFull = (17, 0)
refusal (AlarmsDue due) = (18, due)
refusal NoneDue = (19, 0)
refusal (NoStream stream) = (20, stream)
refusal (NoValueYet stream) = (21, stream)

abbrev pub number_of : Cause → ℕ
number_of c = (refusal c).0

abbrev pub place_of : Cause → ℕ
place_of c = (refusal c).1

-- a result with its cause by number and place
abbrev pub by_number : {X : Type 0} → Result X Cause → Result X Refusal
by_number (Ok x) = Ok x
by_number (Err c) = Err (refusal c)
