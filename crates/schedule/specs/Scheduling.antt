-- What is answered of a table whose records are in order: its plan, or why there is none. Assumes nothing.
use Rattle.std.specs.Prelude.{◌≡◌, ℕ, ◌<◌, ◌≤◌, ◌⊎◌, List, Ok, Err, Result}
use Rattle.faults.specs.declared.cause.Cause.{Cause}
use Rattle.faults.specs.declared.cause.Cause.TheVariants.{Slots}
use Rattle.faults.specs.declared.stop.Stop.{Stop}
use Rattle.faults.specs.declared.stop.Stop.TheVariants.{Refused, Memory}
use Rattle.syntax.specs.Entries.{Entry}
use Rattle.walks.specs.declared.edge.SheetEntry.{SheetEntry}
use Rattle.walks.specs.Walks.{Falling, Settled}
use Rattle.schedule.specs.declared.plan.Plan.{Plan}
use Rattle.schedule.specs.Graphs.{graph, told, IsChannel}
use Rattle.schedule.specs.Plans.{Takes, Planned}
use Rattle.schedule.specs.Walking.{BlamesWalk}

-- the rings take more than 2,048 slots, where no walk is to blame
pub record Overfull (rs : List Entry) (z : ℕ) : Type 0 where
  pub falls : Falling (graph rs)
  pub settled : Settled (graph rs) IsChannel
  pub takes : Takes rs z
  pub many : 2048 < z

-- why a table has no plan: a walk, told in the sheet, or its slots, with the sheet as it was
abbrev pub Blames : List Entry → List SheetEntry → List SheetEntry → Cause → Type 0
Blames rs old new c = BlamesWalk (graph rs) IsChannel (told rs) old new c ⊎ ((z : ℕ) × (c ≡ Slots z) × (new ≡ old) × Overfull rs z)

-- a plan of at most 2,048 slots, or why there is none; where memory fails, the sheet is as it was
abbrev pub Scheduled : List Entry → List SheetEntry → List SheetEntry → Result Plan (Stop Cause) → Type 0
Scheduled rs old new (Ok p) = (new ≡ old) × Planned rs p × (p.counts.slots ≤ 2048)
Scheduled rs old new (Err (Refused c)) = Blames rs old new c
Scheduled rs old new (Err Memory) = new ≡ old
