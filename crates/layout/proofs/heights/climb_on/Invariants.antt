use Rattle.layout.proofs.Slopes.{Climbing}
use Rattle.layout.proofs.heights.climb_on.Given as goal

abbrev pub invariant-loop-reader : goal.invariant-loop-reader
invariant-loop-reader l = Climbing l.rows l.before l.from l.reader l.to
