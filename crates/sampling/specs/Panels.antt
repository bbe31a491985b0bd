-- A panel as a sampler, and what the host's calls do to it. Assumes nothing.
use Rattle.std.specs.Prelude.{ℕ, cond, Some, Ok, Err, Result, nat_lt}
use Rattle.faults.specs.declared.cause.Cause.TheVariants.{Limit, NoRow, Dark}
use Rattle.faults.specs.declared.fault.Fault.{Fault}
use Rattle.faults.specs.declared.fault.Layer.TheVariants as layer
use Rattle.faults.specs.Faults.{made_by}
use Rattle.sampling.specs.declared.panel.Panel.{Panel}
use Rattle.sampling.specs.declared.row.Row.{Row}
use Rattle.sampling.specs.Meanings.{Meaning}
use Rattle.sampling.specs.Rows.{readings}

-- a channel above 15 is refused, at its number
abbrev pub set : ℕ → Result (Unit {0}) Fault
set k = cond (nat_lt k 16) (Ok tt) (Err (made_by layer.Panel (Limit k)))

-- the row that it reads, and the one that its host sets
abbrev pub present_row : Panel → Row
present_row p = p.present

abbrev pub next_row : Panel → Row
next_row p = p.next

-- a panel always has a next row, so that its latch is never refused
abbrev pub panel_meaning : Panel → Meaning
panel_meaning p = record {
  present = readings (present_row p);
  next = Some (readings (next_row p));
  refusal = made_by layer.Panel (NoRow 0);
  dark = λ k. made_by layer.Panel (Dark k);
}
