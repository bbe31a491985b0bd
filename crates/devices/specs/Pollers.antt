-- A poller as a sampler, what a latch that goes through makes of it, and what a refused one leaves. Assumes nothing.
use Rattle.std.specs.Prelude.{◌≡◌, ℕ, ◌+◌, min, List, option_map, slice_get}
use Rattle.faults.specs.declared.cause.Cause.TheVariants.{NoRow, Dark}
use Rattle.faults.specs.declared.fault.Layer.TheVariants as layer
use Rattle.faults.specs.Faults.{made_by}
use Rattle.sampling.specs.declared.row.Row.{Row}
use Rattle.sampling.specs.Meanings.{Meaning}
use Rattle.sampling.specs.Rows.{readings}
use Rattle.devices.specs.declared.poller.Poller.{Poller}

-- the rows that its host lends
abbrev pub rows_of : Poller → List Row
rows_of p = p.rows.now

-- how many of them were given, from the front
abbrev pub given_rows : Poller → ℕ
given_rows p = p.given

-- how many latches were refused, in 32 bits
abbrev pub failed_polls : Poller → ℕ
failed_polls p = p.failed

-- the row that it reads
abbrev pub present_row : Poller → Row
present_row p = p.present

-- what a poller means: its next row is the first that was not given yet, if there is one; the place of a refusal is how many were
abbrev pub poller_meaning : Poller → Meaning
poller_meaning p = record {
  present = readings (present_row p);
  next = option_map readings (slice_get (rows_of p) (given_rows p));
  refusal = made_by layer.Trace (NoRow (given_rows p));
  dark = λ k. made_by layer.Trace (Dark k);
}

-- one row more was given; the rows lent and the count of failures stay
pub record Polled (old new : Poller) : Type 0 where
  pub rows : rows_of new ≡ rows_of old
  pub given : given_rows new ≡ given_rows old + 1
  pub failed : failed_polls new ≡ failed_polls old

-- the poll failed: one failure more is counted, as far as 32 bits go, and all else stays
pub record Failed (old new : Poller) : Type 0 where
  pub rows : rows_of new ≡ rows_of old
  pub given : given_rows new ≡ given_rows old
  pub present : present_row new ≡ present_row old
  pub failed : failed_polls new ≡ min (failed_polls old + 1) 4294967295
