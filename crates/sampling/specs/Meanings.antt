-- What a sampler means to its callers, and what a latch and a read make of that. Assumes nothing.
use Rattle.std.specs.Prelude.{◌≡◌, ℕ, Some, None, Ok, Err, Option, Result, ok_or, unwrap_or}
use Rattle.faults.specs.declared.fault.Fault.{Fault}
use Rattle.values.specs.declared.value.Value.{Value}
use Rattle.sampling.specs.Rows.{Readings}

-- the present row; the next row, if any; the fault of a latch where there is no next row; and the fault of a read of a channel at which the present row has nothing
pub record Meaning : Type 0 where
  pub present : Readings
  pub next : Option Readings
  pub refusal : Fault
  pub dark : ℕ → Fault

-- a latch goes through where there is a next row
abbrev pub latch_answer : {E : Type 0} → Option Readings → E → Result (Unit {0}) E
latch_answer (Some row) fault = Ok tt
latch_answer None fault = Err fault

-- what a latch answers
abbrev pub latched : Meaning → Result (Unit {0}) Fault
latched m = latch_answer m.next m.refusal

-- the present row after a latch: the next row, or where there is none still the present one
abbrev pub row_after : Meaning → Readings
row_after m = unwrap_or m.next m.present

-- what a read of a channel answers
abbrev pub reading : Meaning → ℕ → Result Value Fault
reading m k = ok_or (m.present k) (m.dark k)

-- both rows are kept
pub record SameRows (old new : Meaning) : Type 0 where
  pub present : new.present ≡ old.present
  pub next : new.next ≡ old.next
