-- A table's records and where its values lie in memory. Assumes nothing.
use Rattle.std.specs.Prelude.{ℕ, ◌+◌, ◌%◌, List}
use Rattle.syntax.specs.Entries.{Entry}
use Rattle.references.specs.declared.reference.Id.{Id}
use Rattle.schedule.specs.declared.plan.Plan.{Plan}
use Rattle.schedule.specs.Plans.{ring_of, length_of, lead_in}

-- the leads of the streams, the first slot and the length of each channel's and stream's ring, and how many slots all rings take
pub record System : Type 0 where
  pub records : List Entry
  pub lead : ℕ → ℕ
  pub base : Id → ℕ
  pub size : Id → ℕ
  pub slots : ℕ

-- those of a table by its plan
abbrev pub system_of : List Entry → Plan → System
system_of rs p = record { records = rs; lead = lead_in p; base = λ id. (ring_of p id).base; size = length_of p; slots = p.counts.slots }

-- the slot of index i in the ring of a record
abbrev pub slot : System → Id → ℕ → ℕ
slot S id i = S.base id + i % S.size id
