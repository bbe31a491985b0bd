-- What an accepted table holds. Assumes nothing.
use Rattle.std.specs.Prelude.{◌≡◌, ℕ, ◌≤◌, List, [], Ok}
use Rattle.std.specs.Result.{result_unwrap_or}
use Rattle.schedule.specs.Edges.{InOrder}
use Rattle.schedule.specs.declared.plan.Plan.{Plan}
use Rattle.schedule.specs.Plans.{Planned}
use Rattle.syntax.specs.Entries.{Entry}
use Rattle.tables.specs.declared.content.Content.{Content}
use Rattle.tables.specs.Contents.{Sorts}
use Rattle.tables.specs.Reading.{checked}

-- the records that bytes write, none where they are not in order
abbrev pub records_in : List ℕ → List Entry
records_in bytes = result_unwrap_or (checked bytes) []

-- bytes that are in order, their records by kind, and a plan of them that fits the memory
pub record Accepted (bytes : List ℕ) (p : Plan) (c : Content) : Type 0 where
  pub passed : checked bytes ≡ Ok (records_in bytes)
  pub in_order : InOrder (records_in bytes)
  pub sorts : Sorts (records_in bytes) p c
  pub planned : Planned (records_in bytes) p
  pub small : p.counts.slots ≤ 2048
