-- The steps by which rings are filled: one store after another, in the order of evaluation. Assumes nothing.
use Rattle.std.specs.Prelude.{ℕ, zero, suc, ◌+◌, ◌-◌, if◌then◌else◌, List, ◌++◌, drop, replicate, nat_le, slice_index, slice_set}
use Rattle.values.specs.declared.value.Value.{Value}
use Rattle.values.specs.Values.{word}
use Rattle.syntax.specs.declared.record.Kind.TheVariants.{Stream}
use Rattle.syntax.specs.Entries.{count}
use Rattle.schedule.specs.Graphs.{channel, stream}
use Rattle.equations.specs.Equations.{by_equation}
use Rattle.rings.specs.Systems.{System, slot}
use Rattle.rings.specs.Memory.{samples_in, values_in}

-- the first c channels' samples of the tick n stored
abbrev pub stored_samples : System → ℕ → (ℕ → Value) → List ℕ → ℕ → List ℕ
stored_samples S n row mem zero = mem
stored_samples S n row mem (suc c) = slice_set (stored_samples S n row mem c) (slot S (channel c) n) (word (row c))

-- the stream s worked out at index i and stored
abbrev pub stored_value : System → List ℕ → ℕ → ℕ → List ℕ
stored_value S mem s i = slice_set mem (slot S (stream s) i) (word (by_equation S.records (samples_in S mem) (values_in S mem) s i))

-- the same at the tick u, where ticks are counted from the first opening tick, `top` before the first judged one; an index below 0 is skipped
abbrev pub worked : System → ℕ → ℕ → List ℕ → ℕ → List ℕ
worked S top u mem s = if nat_le top (u + S.lead s) then stored_value S mem s (u + S.lead s - top) else mem

-- the first k streams of an order at that tick
abbrev pub worked_first : System → List ℕ → ℕ → ℕ → List ℕ → ℕ → List ℕ
worked_first S order top u mem zero = mem
worked_first S order top u mem (suc k) = worked S top u (worked_first S order top u mem k) (slice_index order k)

-- all streams at each of the first u ticks
abbrev pub worked_through : System → List ℕ → ℕ → List ℕ → ℕ → List ℕ
worked_through S order top mem zero = mem
worked_through S order top mem (suc u) = worked_first S order top u (worked_through S order top mem u) (count Stream S.records)

-- the rings cleared, and then all opening ticks
abbrev pub opened : System → List ℕ → ℕ → List ℕ → List ℕ
opened S order top mem = worked_through S order top (replicate S.slots 0 ++ drop S.slots mem) top
