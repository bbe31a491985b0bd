-- What a row reads. Assumes nothing.
use Rattle.std.specs.Prelude.{ℕ, cond, None, Option, ◌==◌, nat_lt, slice_index_or}
use Rattle.values.specs.declared.value.Value.{Value}
use Rattle.sampling.specs.declared.row.Row.{Row}

-- what each channel reads, if anything
abbrev pub Readings : Type 0
Readings = ℕ → Option Value

-- nothing at any channel
abbrev pub nothing : Readings
nothing k = None

-- of a row: sixteen channels, and nothing above
abbrev pub readings : Row → Readings
readings r k = cond (nat_lt k 16) (slice_index_or r.channels k None) None

-- the same with another reading at one channel
abbrev pub updated : Readings → ℕ → Option Value → Readings
updated s k o j = cond (j == k) o (s j)

-- the same where a row has the channel
abbrev pub placed : Readings → ℕ → Option Value → Readings
placed s k o = cond (nat_lt k 16) (updated s k o) s
