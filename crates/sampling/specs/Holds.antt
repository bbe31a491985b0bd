-- How a hold bridges the latches at which the row below has nothing. Assumes nothing.
use Rattle.std.specs.Prelude.{ℕ, ◌-◌, Bool, ◌&&◌, cond, List, Some, None, Option, is_none, ◌==◌, nat_lt, slice_index_or}
use Rattle.faults.specs.declared.cause.Cause.TheVariants.{Dark}
use Rattle.faults.specs.declared.fault.Layer.TheVariants as layer
use Rattle.faults.specs.declared.upper.UpperFault.{UpperFault}
use Rattle.faults.specs.Faults.{from_below, its_own}
use Rattle.values.specs.declared.value.Value.{Value}
use Rattle.sampling.specs.declared.channel.ChannelRecord.{ChannelRecord}
use Rattle.sampling.specs.Meanings.{Meaning}
use Rattle.sampling.specs.Rows.{Readings}

-- of a channel that has not been read yet
abbrev pub unread : ChannelRecord
unread = record { last = None; left = 0 }

-- what is shown of a channel
abbrev pub last_value : ChannelRecord → Option Value
last_value r = r.last

-- the record after a latch at which the row below reads this at the channel, where so many latches running are bridged
abbrev pub after : ℕ → ChannelRecord → Option Value → ChannelRecord
after bridges r (Some v) = record { last = Some v; left = bridges }
after bridges r None = cond (r.left == 0) unread record { last = r.last; left = r.left - 1 }

-- the record of a channel
abbrev pub record_at : List ChannelRecord → ℕ → ChannelRecord
record_at rs k = slice_index_or rs k unread

-- the hold's row after a latch that makes `below` the row under it
abbrev pub bridged : ℕ → List ChannelRecord → Readings → Readings
bridged bridges rs below k = cond (nat_lt k 16) (after bridges (record_at rs k) (below k)).last None

-- what a hold reads: nothing before its first latch, and then what its own records show
abbrev pub hold_row : Bool → List ChannelRecord → Readings
hold_row latched rs k = cond (latched && nat_lt k 16) (record_at rs k).last None

-- the fault of a dark read: after the first latch the one from below; before it, or where there is a value below after all, the hold's own
abbrev pub hold_dark : Bool → Meaning → ℕ → UpperFault
hold_dark latched below k = cond (latched && is_none (below.present k)) (from_below (below.dark k)) (its_own layer.Hold (Dark k))
