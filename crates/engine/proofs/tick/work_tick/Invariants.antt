use Rattle.std.proofs.Common.{◌≡◌}
use Rattle.lists.specs.Lists.{items}
use Rattle.rings.specs.Steps.{worked_first}
use Rattle.tables.specs.Tables.{plan_of}
use Rattle.engine.specs.Rings.{rings_of}
use Rattle.engine.proofs.tick.work_tick.Given as goal

abbrev pub invariant-loop-stream : goal.invariant-loop-stream
invariant-loop-stream l = l.rings ≡ worked_first (rings_of l.table) (items (plan_of l.table).order) l.top l.tick l.fn.rings l.stream-index
