use Rattle.std.proofs.Common.{◌≡◌, replicate, drop, ◌++◌}
use Rattle.lists.specs.Lists.{items}
use Rattle.rings.specs.Steps.{worked_through}
use Rattle.tables.specs.Tables.{plan_of}
use Rattle.engine.specs.Rings.{rings_of}
use Rattle.engine.proofs.tick.open.Given as goal

abbrev pub invariant-loop-tick : goal.invariant-loop-tick
invariant-loop-tick l =
    l.rings ≡ worked_through (rings_of l.table) (items (plan_of l.table).order) l.top (replicate (plan_of l.table).counts.slots 0 ++ drop (plan_of l.table).counts.slots l.fn.rings) l.tick
