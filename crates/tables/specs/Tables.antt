-- What contracts see of an accepted table. Assumes nothing.
use Rattle.std.specs.Prelude.{ℕ, List, vec_items}
use Rattle.schedule.specs.declared.plan.Plan.{Plan}
use Rattle.syntax.specs.declared.record.Rule.{Rule}
use Rattle.syntax.specs.Entries.{Entry}
use Rattle.tables.specs.declared.content.Channel.{Channel}
use Rattle.tables.specs.declared.content.Stream.{Stream}
use Rattle.tables.specs.declared.table.Table.{Table}
use Rattle.tables.specs.Accepting.{Accepted, records_in}

abbrev pub bytes_of : Table → List ℕ
bytes_of t = vec_items t.bytes

-- the records that its bytes write
abbrev pub records_of : Table → List Entry
records_of t = records_in (bytes_of t)

-- the channels, streams and rules by number
abbrev pub channels_of : Table → List Channel
channels_of t = vec_items t.content.channels

abbrev pub streams_of : Table → List Stream
streams_of t = vec_items t.content.streams

abbrev pub rules_of : Table → List Rule
rules_of t = vec_items t.content.rules

-- the plan of their values
abbrev pub plan_of : Table → Plan
plan_of t = t.plan

-- what is known of any table
abbrev pub IsAccepted : Table → Type 0
IsAccepted t = Accepted (bytes_of t) t.plan t.content
