use Rattle.std.proofs.Common.{length}
use Rattle.day.proofs.tests.finish.Given as goal

abbrev pub decreases-loop-stopped : goal.decreases-loop-stopped
decreases-loop-stopped l = length l.judged.due
