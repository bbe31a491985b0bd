use Rattle.std.proofs.Common.{◌≡◌}
use Rattle.rings.specs.Steps.{stored_samples}
use Rattle.engine.specs.Rings.{rings_of, value_at}
use Rattle.engine.proofs.tick.store_samples.Given as goal

abbrev pub invariant-loop-number : goal.invariant-loop-number
invariant-loop-number l = l.rings ≡ stored_samples (rings_of l.table) l.tick (value_at l.row) l.fn.rings l.number
