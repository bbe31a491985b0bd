use Rattle.rings.specs.Calls.{OpensAndJudges}
use Rattle.engine.specs.Rings.{rings_of, samples_of}
use Rattle.engine.proofs.tick.run.Given as goal

abbrev pub invariant-loop-tick : goal.invariant-loop-tick
invariant-loop-tick l = OpensAndJudges (rings_of l.table) (samples_of l.rows) l.tick l.fn.rings l.rings
