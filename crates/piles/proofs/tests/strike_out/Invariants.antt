use Rattle.std.proofs.Common.{length}
use Rattle.piles.proofs.tests.strike_out.Given as goal

abbrev pub decreases-loop-ready : goal.decreases-loop-ready
decreases-loop-ready l = length l.judged.due
