-- What opening a trace answers, and what a latch gives. Assumes nothing.
use Rattle.std.specs.Prelude.{◌≡◌, ℕ, ◌+◌, ◌<◌, ◌≤◌, true, is_ok, List, [], ◌∷◌, length, Some, None, Ok, Err, Option, Result}
use Rattle.faults.specs.declared.cause.Cause.TheVariants.{NoRow, Dark}
use Rattle.faults.specs.Causes.{refusal}
use Rattle.faults.specs.declared.fault.Fault.{Fault}
use Rattle.faults.specs.declared.fault.Layer.TheVariants as layer
use Rattle.faults.specs.declared.stop.Stop.{Stop}
use Rattle.faults.specs.declared.stop.Stop.TheVariants.{Refused, Memory}
use Rattle.faults.specs.Faults.{made_by}
use Rattle.sampling.specs.Meanings.{Meaning}
use Rattle.sampling.specs.Rows.{readings, nothing}
use Rattle.traces.specs.declared.trace.Trace.{Trace}
use Rattle.traces.specs.Reading.{Cell, rows, read_trace}
use Rattle.traces.specs.Rows.{row_of}
use Rattle.sampling.specs.declared.row.Row.{Row}
use Rattle.traces.specs.Traces.{left, first}

-- a trace of these rows, of which none was given yet
pub record Fresh (t : Trace) (bytes : List ℕ) (rs : List (List Cell)) : Type 0 where
  pub bytes_are : t.bytes.items ≡ bytes
  pub rows_are : left t.bytes.items t.at ≡ rs
  pub given : t.given ≡ 0
  pub present : readings t.present ≡ nothing

-- a trace is opened where its bytes write rows, and answers how many; a refusal is a fault of the layer trace, and keeps the old trace;
-- memory may fail only once the bytes are in order
abbrev pub Opens : Trace → Trace → List ℕ → Result ℕ (Stop Fault) → Type 0
Opens old new bytes (Ok n) = (rs : List (List Cell)) × (read_trace bytes ≡ Ok rs) × (n ≡ length rs) × Fresh new bytes rs
Opens old new bytes (Err (Refused f)) = (new ≡ old) × (f ≡ made_by layer.Trace f.cause) × (read_trace bytes ≡ Err (refusal f.cause))
Opens old new bytes (Err Memory) = (new ≡ old) × (rs : List (List Cell)) × (read_trace bytes ≡ Ok rs)

-- the row that comes next, before those that are left from the place after it
abbrev pub Comes : Trace → Option (Row × ℕ) → Type 0
Comes t (Some p) =
    (cs : List Cell) × (left t.bytes.items t.at ≡ cs ∷ left t.bytes.items p.1) × (readings p.0 ≡ row_of cs)
    × (t.at < p.1) × (p.1 ≤ length t.bytes.items) × (is_ok (rows (length t.bytes.items) t.bytes.items p.1) ≡ true)
Comes t None = left t.bytes.items t.at ≡ []

-- a latch that goes through gives the first of the rows left
pub record Gives (old new : Trace) : Type 0 where
  pub bytes_are : new.bytes.items ≡ old.bytes.items
  pub row : List Cell
  pub rest : left old.bytes.items old.at ≡ row ∷ left new.bytes.items new.at
  pub given : new.given ≡ old.given + 1

-- a trace as a sampler: its next row is the first of those left, and a latch with none left is refused at how many were given
abbrev pub trace_meaning : Trace → Meaning
trace_meaning t = record {
  present = readings t.present;
  next = first (left t.bytes.items t.at);
  refusal = made_by layer.Trace (NoRow t.given);
  dark = λ k. made_by layer.Trace (Dark k);
}
