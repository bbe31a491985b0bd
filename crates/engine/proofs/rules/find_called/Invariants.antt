use Rattle.std.proofs.Common.{◌≡◌}
use Rattle.engine.proofs.Calling.{true_among}
use Rattle.engine.proofs.rules.find_called.Given as goal

abbrev pub invariant-loop-number : goal.invariant-loop-number
invariant-loop-number l = l.called.items ≡ true_among l.table l.rings l.tick l.number
